use Rattle.dns_names.proofs.OwnOctets.{own_spelled}
use Rattle.dns_names.proofs.owned.Name.from_spelling.Goals as goal

pub invariant_of-result : goal.invariant_of-result
invariant_of-result c = (own_spelled c.requires.0 _ c.requires.2 c.requires.1).0

pub returns : goal.returns
returns c = λ labels h e. (own_spelled labels _ e h).1
