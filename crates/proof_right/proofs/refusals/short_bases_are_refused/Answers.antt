use Rattle.proof_right.proofs.wrong.Sends.{too_short}
use Rattle.proof_right.proofs.refusals.short_bases_are_refused.Goals as goal

pub returns : goal.returns
returns c = too_short
