use Rattle.proof_right.proofs.server.Concrete.{every_hit}
use Rattle.proof_right.proofs.laws.every_cached_run_hits.Goals as goal

pub returns : goal.returns
returns c = every_hit
