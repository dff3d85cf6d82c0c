use Rattle.cache_rules.proofs.KeyLaws.{keys_are_told}
use Rattle.cache_rules.proofs.laws.keys_are_told_apart.Goals as goal

pub returns : goal.returns
returns c = keys_are_told
