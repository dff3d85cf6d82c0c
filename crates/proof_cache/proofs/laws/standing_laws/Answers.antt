use Rattle.proof_cache.proofs.Tables.{standing_laws}
use Rattle.proof_cache.proofs.laws.standing_laws.Goals as goal

pub returns : goal.returns
returns c = standing_laws
