-- Addresses and their texts, by what std proves of its own.
use Rattle.std.proofs.Common.{◌≡◌, ℕ, List, ap}
use Rattle.std.specs.declared.net.ip_addr.IpAddr as Std
use Rattle.std.specs.declared.net.ip_addr.IpAddr.TheVariants as Ip
use Rattle.std.specs.declared.net.ipv4_addr.Ipv4Addr.{Ipv4Addr}
use Rattle.std.specs.declared.net.ipv6_addr.Ipv6Addr.{Ipv6Addr}
use Rattle.std.specs.Net.Grammar.{IsIpText}
use Rattle.std.proofs.NetLemmas.Texts.{IsDotted-ipv4_text, IsColonHex-ipv6_text}
use Rattle.std.proofs.NetLemmas.Theorems.{IsIpv4Text_unique, IsIpv6Text_unique}
use Rattle.std.proofs.NetLemmas.Ipv6.{IsDotted-not_colon_hex}
use Rattle.dns_values.specs.declared.address.IpAddr.{IpAddr}
use Rattle.dns_values.specs.declared.address.IpAddr.TheVariants.{V4, V6}
use Rattle.dns_values.specs.Address.{IsAddressText, IsAddress, address_text}

-- where a text writes no address of std, it writes none
pub none_else : (text : List ℕ) → ((a : Std.IpAddr) → IsIpText text a → ⊥) → (a : IpAddr) → IsAddressText text a → ⊥
none_else text none (V4 octets) is = none (Ip.V4 (record { octets = octets })) is
none_else text none (V6 groups) is = none (Ip.V6 (record { segments = groups })) is

-- A text writes one address at most.
pub one_address : (text : List ℕ) (a b : IpAddr) → IsAddressText text a → IsAddressText text b → a ≡ b
one_address text (V4 o) (V4 p) h k =
    let x : Ipv4Addr = record { octets = o } in
    let y : Ipv4Addr = record { octets = p } in
    let same : x ≡ y = IsIpv4Text_unique text x y h k in ap (λ (v : Ipv4Addr). V4 v.octets) same
one_address text (V4 o) (V6 p) h k = absurd (IsDotted-not_colon_hex text o p h k)
one_address text (V6 o) (V4 p) h k = absurd (IsDotted-not_colon_hex text p o k h)
one_address text (V6 o) (V6 p) h k =
    let x : Ipv6Addr = record { segments = o } in
    let y : Ipv6Addr = record { segments = p } in
    let same : x ≡ y = IsIpv6Text_unique text x y h k in ap (λ (v : Ipv6Addr). V6 v.segments) same

-- What an address prints writes it.
pub printed : (a : IpAddr) → IsAddress a → IsAddressText (address_text a) a
printed (V4 octets) h = IsDotted-ipv4_text octets h.0 h.1
printed (V6 groups) h = IsColonHex-ipv6_text groups h.0 h.1
