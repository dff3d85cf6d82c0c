use Rattle.proof_right.proofs.worked.Streams.{worked}
use Rattle.proof_right.proofs.examples.worked_streams.Goals as goal

pub returns : goal.returns
returns c = worked
