use Rattle.proof_cache.proofs.Listed.{requests_are_listed}
use Rattle.proof_cache.proofs.laws.requests_are_listed.Goals as goal

pub returns : goal.returns
returns c = requests_are_listed
