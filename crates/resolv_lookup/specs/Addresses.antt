-- The addresses that records say.
use Rattle.std.specs.Prelude.{List, Option, Some, None}
use Rattle.std.specs.List.{filter_map}
use Rattle.std.specs.Net.Addr.{segments_of}
use Rattle.dns_values.specs.declared.address.IpAddr.{IpAddr}
use Rattle.dns_values.specs.declared.address.IpAddr.TheVariants.{V4, V6}
use Rattle.resolv_lookup.specs.declared.address_iter.Kind.{Kind}
use Rattle.resolv_lookup.specs.declared.address_iter.Kind.TheVariants.{Ipv4, Ipv6}
use Rattle.dns_base.specs.Data.{Data, A, Aaaa}
use Rattle.dns_base.specs.Message.{Known}

-- the address of a kind that data says, if it is read
abbrev pub address_said : Kind → Option Data → Option IpAddr
address_said Ipv4 (Some (A octets)) = Some (V4 octets)
address_said Ipv6 (Some (Aaaa octets)) = Some (V6 (segments_of octets))
address_said _ _ = None

-- the addresses of a kind that records say, in order
abbrev pub addresses_said : Kind → List Known → List IpAddr
addresses_said kind records = filter_map (λ known. address_said kind known.says) records
