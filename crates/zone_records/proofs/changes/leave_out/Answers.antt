use Rattle.std.proofs.Common.{rules}
use Rattle.std.proofs.lemmas.Fn.{filter_same}
use Rattle.zone_records.specs.Changing.{stays}
use Rattle.zone_records.proofs.changes.leave_out.Goals as goal

pub returns-clause-left : goal.returns-clause-left
returns-clause-left c = filter_same _ (stays c.args.gone.now.keys) _ (λ x b f' k. search rules) _ _ c.retain.ensures.filtered
