use Rattle.proof_cache.proofs.Finding.{requests_are_answered}
use Rattle.proof_cache.proofs.laws.requests_are_answered.Goals as goal

pub returns : goal.returns
returns c = requests_are_answered
