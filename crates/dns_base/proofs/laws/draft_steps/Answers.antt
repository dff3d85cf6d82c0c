use Rattle.dns_base.proofs.Steps.{draft_steps}
use Rattle.dns_base.proofs.laws.draft_steps.Goals as goal

pub returns : goal.returns
returns c = draft_steps
