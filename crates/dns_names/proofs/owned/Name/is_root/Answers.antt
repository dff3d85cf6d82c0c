use Rattle.dns_names.proofs.OwnOctets.{one_octet}
use Rattle.dns_names.proofs.owned.Name.is_root.Goals as goal

pub returns : goal.returns
returns c = one_octet _ _ c.as_octets.ensures.octets
