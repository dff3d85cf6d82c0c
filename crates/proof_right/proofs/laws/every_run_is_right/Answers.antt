use Rattle.proof_right.proofs.server.Concrete.{every_run}
use Rattle.proof_right.proofs.laws.every_run_is_right.Goals as goal

pub returns : goal.returns
returns c = every_run
