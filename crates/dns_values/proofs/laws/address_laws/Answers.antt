use Rattle.dns_values.proofs.Addresses.{one_address, printed}
use Rattle.dns_values.proofs.laws.address_laws.Goals as goal

pub returns : goal.returns
returns c = record { one_address = one_address; printed = printed }
