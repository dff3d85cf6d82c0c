use Rattle.dns_values.proofs.Addresses.{none_else}
use Rattle.dns_values.proofs.address.IpAddr.from_text.Goals as goal

pub returns-in-Err : goal.returns-in-Err
returns-in-Err c = none_else _ c.in-Err.ensures.value
