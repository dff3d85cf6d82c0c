use Rattle.dns_base.proofs.Holding.{draft_laws}
use Rattle.dns_base.proofs.laws.draft_laws.Goals as goal

pub returns : goal.returns
returns c = draft_laws
