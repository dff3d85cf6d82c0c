use Rattle.std.proofs.Common.{subst}
use Rattle.dns_values.specs.Address.{IsAddressText}
use Rattle.dns_values.specs.declared.address.IpAddr.{IpAddr}
use Rattle.dns_lookup_words.proofs.ShortAddresses.{none_dotted, not_dotted}
use Rattle.dns_lookup_words.proofs.short_address.dotted.Goals as goal

pub returns-in-V6 : goal.returns-in-V6
returns-in-V6 c = λ ip h. not_dotted c.args.text.now c.in-V6.field-0 ip (subst (λ (i : IpAddr). IsAddressText c.args.text.now i) c.in-V6.is c.in-Ok.ensures) h

pub returns-in-Err : goal.returns-in-Err
returns-in-Err c = none_dotted c.args.text.now c.in-Err.ensures
