use Rattle.proof_cache.proofs.Deriving.{deriving_is_moving}
use Rattle.proof_cache.proofs.laws.deriving_is_moving.Goals as goal

pub returns : goal.returns
returns c = deriving_is_moving
