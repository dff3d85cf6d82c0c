use Rattle.proof_cache.proofs.CachedRuns.{keys_are_told}
use Rattle.proof_cache.proofs.laws.keys_are_told.Goals as goal

pub returns : goal.returns
returns c = keys_are_told
