use Rattle.proof_right.proofs.Carried.{composable}
use Rattle.proof_right.proofs.refusals.carried_can_be_composed.Goals as goal

pub returns : goal.returns
returns c = composable
