use Rattle.dns_names.proofs.OwnOctets.{own_none}
use Rattle.dns_names.proofs.owned.Name.root.Goals as goal

pub invariant_of-result : goal.invariant_of-result
invariant_of-result c = (own_none _ c.new.ensures.items).0

pub returns : goal.returns
returns c = (own_none _ c.new.ensures.items).1
