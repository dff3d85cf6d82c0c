-- Addresses as the system takes them.
use Rattle.std.specs.Prelude.{◌≡◌}
use Rattle.std.specs.Net.Addr.{IsV4And, IsV6And, ipv4_octets, ipv6_segments}
use Rattle.std.specs.declared.net.ip_addr.IpAddr.{IpAddr as SystemIp}
use Rattle.dns_values.specs.declared.address.IpAddr.{IpAddr}
use Rattle.dns_values.specs.declared.address.IpAddr.TheVariants.{V4, V6}

-- It is the same address as the system's.
abbrev pub IsSameIp : IpAddr → SystemIp → Type 0
IsSameIp (V4 octets) ip = IsV4And ip (λ a. ipv4_octets a ≡ octets)
IsSameIp (V6 groups) ip = IsV6And ip (λ a. ipv6_segments a ≡ groups)
