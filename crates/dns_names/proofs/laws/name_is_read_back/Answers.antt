use Rattle.dns_names.proofs.Shown.{name_read, are_octets}
use Rattle.dns_names.proofs.laws.name_is_read_back.Goals as goal

pub returns : goal.returns
returns c = name_read _ c.as_octets.ensures.legal (are_octets _ _ c.as_octets.ensures.octets c.are_octets.ensures)
