-- Addresses of IPv4 whose last numbers may be left out.
use Rattle.std.specs.Prelude.{◌<◌, ◌≤◌, ◌++◌, ℕ, zero, suc, List, [], codes, drop}
use Rattle.std.specs.Net.Grammar.{IsDotted}
use Rattle.dns_names.specs.Name.{Labels}
use Rattle.dns_names.specs.Reverse.{reverse_labels}
use Rattle.dns_values.specs.Address.{IsAddressText}
use Rattle.dns_values.specs.declared.address.IpAddr.{IpAddr}
use Rattle.dns_values.specs.declared.address.IpAddr.TheVariants.{V4, V6}

-- so many zeros, each behind a dot
abbrev pub zeros : ℕ → List ℕ
zeros zero = []
zeros (suc n) = zeros n ++ codes ".0"

-- The text is an address of IPv4.
abbrev pub IsDottedText : List ℕ → IpAddr → Type 0
IsDottedText text (V4 octets) = IsDotted text octets
IsDottedText text (V6 groups) = ⊥

-- The text is an address; or it is one of IPv4 once so many zeros stand behind it.
abbrev pub IsAddressWith : ℕ → List ℕ → IpAddr → Type 0
IsAddressWith zero text ip = IsAddressText text ip
IsAddressWith (suc n) text ip = IsDottedText (text ++ zeros (suc n)) ip

-- The text is an address with so many zeros behind it, three at most, and none with fewer.
pub record IsShortAddress (text : List ℕ) (missing : ℕ) (ip : IpAddr) : Type 0 where
  pub few : missing ≤ 3
  pub address : IsAddressWith missing text ip
  pub least : (n : ℕ) → n < missing → (other : IpAddr) → ¬ (IsAddressWith n text other)

-- It is none with three at most.
abbrev pub IsNoAddress : List ℕ → Type 0
IsNoAddress text = (n : ℕ) → n ≤ 3 → (ip : IpAddr) → ¬ (IsAddressWith n text ip)

-- the name above those that map these addresses to names: it has the numbers that are not left out
abbrev pub short_labels : ℕ → IpAddr → Labels
short_labels missing ip = drop missing (reverse_labels ip)
