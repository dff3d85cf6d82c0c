use Rattle.proof_cache.proofs.Asking.{asked_are_of_requests}
use Rattle.proof_cache.proofs.laws.asked_are_of_requests.Goals as goal

pub returns : goal.returns
returns c = asked_are_of_requests
