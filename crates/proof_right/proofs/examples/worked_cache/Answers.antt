use Rattle.proof_right.proofs.worked.Cache.{worked}
use Rattle.proof_right.proofs.examples.worked_cache.Goals as goal

pub returns : goal.returns
returns c = worked
