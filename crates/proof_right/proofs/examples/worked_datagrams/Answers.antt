use Rattle.proof_right.proofs.worked.Dgrams.{worked}
use Rattle.proof_right.proofs.examples.worked_datagrams.Goals as goal

pub returns : goal.returns
returns c = worked
