use Rattle.std.proofs.Common.{rules}
use Rattle.dns_presentation.proofs.RecordTexts.{displays_behind}
use Rattle.dns_presentation.proofs.shown.ShownRecordDisplay.fmt.Goals as goal

pub returns-clause-writes : goal.returns-clause-writes
returns-clause-writes g c = displays_behind _ _ _ _ _ _ _ (λ p. search rules) c.write.ensures.writes
