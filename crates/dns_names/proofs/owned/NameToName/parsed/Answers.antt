use Rattle.std.proofs.Common.{◌∙◌}
use Rattle.dns_names.proofs.NameLaws.{spelled_alone}
use Rattle.dns_names.proofs.owned.NameToName.parsed.Goals as goal

pub at_start-requires : goal.at_start-requires
at_start-requires c = (spelled_alone _ _ c.as_octets.ensures.octets c.as_octets.ensures.legal).0

pub returns : goal.returns
returns c = c.at_start.ensures ∙ (spelled_alone _ _ c.as_octets.ensures.octets c.as_octets.ensures.legal).1
