-- Names that map addresses to names.
use Rattle.std.specs.Prelude.{◌<◌, ◌≤◌, ℕ, length, ◌/◌, ◌%◌, List, [], ◌∷◌, ◌++◌, map, flat_map, reverse, codes, decimal}
use Rattle.std.specs.Char.{digit_char}
use Rattle.dns_values.specs.declared.address.IpAddr.{IpAddr}
use Rattle.dns_values.specs.declared.address.IpAddr.TheVariants.{V4, V6}
use Rattle.dns_names.specs.Name.{Labels}

-- the four hexadecimal digits of a group, the last one first, a label each
abbrev pub digit_labels : ℕ → Labels
digit_labels group =
    (digit_char (group % 16) ∷ []) ∷ (digit_char (group / 16 % 16) ∷ []) ∷ (digit_char (group / 256 % 16) ∷ [])
    ∷ (digit_char (group / 4096) ∷ []) ∷ []

-- The octets in decimal, the last one first (RFC 1035 3.5), or the hexadecimal digits, the last
-- one first (RFC 3596 2.5).
abbrev pub reverse_labels : IpAddr → Labels
reverse_labels (V4 octets) = map decimal (reverse octets) ++ codes "in-addr" ∷ codes "arpa" ∷ []
reverse_labels (V6 groups) = flat_map digit_labels (reverse groups) ++ codes "ip6" ∷ codes "arpa" ∷ []

-- a label of one to three octets
abbrev pub IsDecimal : List ℕ → Type 0
IsDecimal label = (0 < length label) × (length label ≤ 3)
