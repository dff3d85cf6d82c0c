-- Sets of types as text (RFC 4034 4.1.2).
use Rattle.std.specs.Prelude.{ℕ, ◌+◌, ◌*◌, ◌/◌, ◌%◌, ◌==◌, ◌&&◌, nat_le, nat_lt, List, [], ◌∷◌, ◌++◌, Option, Some, None, if◌then◌else◌}
use Rattle.dns_values.specs.NumberNames.{type_text}

-- the type of the lowest bit behind a blank, where it is set
abbrev pub bit_text : ℕ → ℕ → List ℕ
bit_text rtype bits = if bits % 2 == 1 then 32 ∷ type_text rtype else []

-- the types of four bits, the highest first
abbrev pub half_types : ℕ → ℕ → List ℕ
half_types first bits =
    bit_text first (bits / 8) ++ bit_text (first + 1) (bits / 4) ++ bit_text (first + 2) (bits / 2) ++ bit_text (first + 3) bits

abbrev pub octet_types : ℕ → ℕ → List ℕ
octet_types first octet = half_types first (octet / 16) ++ half_types (first + 4) octet

-- the types of octets, the first of which has the bits of some type and of the seven behind it
abbrev pub bits_text : ℕ → List ℕ → List ℕ
bits_text first [] = []
bits_text first (octet ∷ octets) = octet_types first octet ++ bits_text (first + 8) octets

-- a window is its number, a count of 1 to 32, and so many octets of bits
abbrev pub window_size : List ℕ → Option ℕ
window_size (number ∷ count ∷ octets) = if nat_lt 0 count && nat_le count 32 then Some (2 + count) else None
window_size octets = None

-- the types of a window, each behind a blank
abbrev pub window_text : List ℕ → List ℕ
window_text (number ∷ count ∷ octets) = bits_text (256 * number) octets
window_text octets = []
