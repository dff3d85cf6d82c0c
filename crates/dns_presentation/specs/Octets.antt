-- Octets as text: hexadecimal digits, and three decimal ones.
use Rattle.std.specs.Prelude.{ℕ, ◌+◌, ◌*◌, ◌/◌, ◌%◌, ◌-◌, ◌&&◌, nat_le, nat_lt, List, [], ◌∷◌, ◌++◌, decimal, Option, Some, None, if◌then◌else◌}
use Rattle.std.specs.List.{flat_map}

-- the digit of a number below 16: 65 is `A`
abbrev pub hex_digit : ℕ → ℕ
hex_digit d = if nat_lt d 10 then 48 + d else 55 + d

abbrev pub hex_octet : ℕ → List ℕ
hex_octet n = hex_digit (n / 16) ∷ hex_digit (n % 16) ∷ []

abbrev pub hex_text : List ℕ → List ℕ
hex_text octets = flat_map hex_octet octets

-- what a digit of either case says (RFC 3597 5)
abbrev pub hex_value : ℕ → Option ℕ
hex_value c =
    if nat_le 48 c && nat_le c 57 then Some (c - 48)
    else if nat_le 65 c && nat_le c 70 then Some (c - 55)
    else if nat_le 97 c && nat_le c 102 then Some (c - 87)
    else None

abbrev pub with_front : Option ℕ → Option ℕ → Option (List ℕ) → Option (List ℕ)
with_front (Some high) (Some low) (Some octets) = Some ((16 * high + low) ∷ octets)
with_front high low octets = None

-- the octets that digits write, two for each
unfoldable pub octets_of_hex : List ℕ → Option (List ℕ)
octets_of_hex [] = Some []
octets_of_hex (c ∷ []) = None
octets_of_hex (c ∷ d ∷ text) = with_front (hex_value c) (hex_value d) (octets_of_hex text)

-- a backslash and three decimal digits (RFC 1035 5.1)
abbrev pub numbered_octet : ℕ → List ℕ
numbered_octet n = 92 ∷ decimal (n / 100) ++ decimal (n / 10 % 10) ++ decimal (n % 10)
