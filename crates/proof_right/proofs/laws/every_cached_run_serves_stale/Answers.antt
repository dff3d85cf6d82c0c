use Rattle.proof_right.proofs.server.Concrete.{every_stale}
use Rattle.proof_right.proofs.laws.every_cached_run_serves_stale.Goals as goal

pub returns : goal.returns
returns c = every_stale
