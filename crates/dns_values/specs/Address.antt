-- The texts of addresses.
use Rattle.std.specs.Prelude.{◌≡◌, ◌<◌, ◌^◌, ℕ, List, ◌++◌, codes, decimal, length, slice_index}
use Rattle.std.specs.Net.Grammar.{IsDotted, IsColonHex}
use Rattle.std.specs.Net.Text.{ipv4_text, ipv6_text}
use Rattle.dns_values.specs.declared.address.IpAddr.{IpAddr}
use Rattle.dns_values.specs.declared.address.IpAddr.TheVariants.{V4, V6}
use Rattle.dns_values.specs.declared.address.SocketAddr.{SocketAddr}

-- The text writes this address: four decimal numbers, or groups of hexadecimal digits.
abbrev pub IsAddressText : List ℕ → IpAddr → Type 0
IsAddressText text (V4 octets) = IsDotted text octets
IsAddressText text (V6 groups) = IsColonHex text groups

-- what an address prints
abbrev pub address_text : IpAddr → List ℕ
address_text (V4 octets) = ipv4_text octets
address_text (V6 groups) = ipv6_text groups

-- what an address and a port print
abbrev pub bracketed : IpAddr → List ℕ
bracketed (V4 octets) = ipv4_text octets
bracketed (V6 groups) = codes "[" ++ ipv6_text groups ++ codes "]"

abbrev pub socket_address_text : SocketAddr → List ℕ
socket_address_text a = bracketed a.ip ++ codes ":" ++ decimal a.port

-- what each address has: four octets, or eight groups
abbrev pub IsAddress : IpAddr → Type 0
IsAddress (V4 octets) = (length octets ≡ 4) × ((k : ℕ) → slice_index octets k < 2 ^ 8)
IsAddress (V6 groups) = (length groups ≡ 8) × ((k : ℕ) → slice_index groups k < 2 ^ 16)

-- The laws of the texts of addresses.
pub record AddressLaws : Type 0 where
  -- a text writes one address at most
  pub one_address : (text : List ℕ) (a b : IpAddr) → IsAddressText text a → IsAddressText text b → a ≡ b
  -- and what an address prints writes it
  pub printed : (a : IpAddr) → IsAddress a → IsAddressText (address_text a) a
