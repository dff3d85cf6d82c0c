use Rattle.proof_right.proofs.worked.Hits.{worked}
use Rattle.proof_right.proofs.examples.worked_hit.Goals as goal

pub returns : goal.returns
returns c = worked
