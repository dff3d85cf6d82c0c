use Rattle.proof_right.proofs.worked.Servers.{worked}
use Rattle.proof_right.proofs.examples.worked_servers.Goals as goal

pub returns : goal.returns
returns c = worked
