use Rattle.proof_cache.proofs.Keeping.{results_are_given}
use Rattle.proof_cache.proofs.laws.results_are_given.Goals as goal

pub returns : goal.returns
returns c = results_are_given
