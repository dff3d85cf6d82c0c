use Rattle.proof_cache.proofs.Keeping.{what_is_kept_is_stored}
use Rattle.proof_cache.proofs.laws.what_is_kept_is_stored.Goals as goal

pub returns : goal.returns
returns c = what_is_kept_is_stored
