use Rattle.cache_rules.proofs.KeyLaws.{keys_are_of_requests}
use Rattle.cache_rules.proofs.laws.keys_are_of_requests.Goals as goal

pub returns : goal.returns
returns c = keys_are_of_requests
