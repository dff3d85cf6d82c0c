-- Data of any type as text: `\#`, how many octets, and hexadecimal digits (RFC 3597 5).
use Rattle.std.specs.Prelude.{◌==◌, ℕ, ◌+◌, ◌*◌, ◌-◌, List, [], ◌∷◌, ◌++◌, length, decimal, Option, Some, None, option_and_then, unwrap_or, if◌then◌else◌}
use Rattle.dns_names.specs.Text.{is_digit}
use Rattle.dns_presentation.specs.Octets.{hex_text, octets_of_hex}

-- a blank and the digits, where there are any
abbrev pub digits_behind : List ℕ → List ℕ
digits_behind [] = []
digits_behind (n ∷ octets) = 32 ∷ hex_text (n ∷ octets)

abbrev pub generic_text : List ℕ → List ℕ
generic_text octets = 92 ∷ 35 ∷ 32 ∷ decimal (length octets) ++ digits_behind octets

-- the text of a form, or generic data where octets aren't of it
abbrev pub or_generic : Option (List ℕ) → List ℕ → List ℕ
or_generic form octets = unwrap_or form (generic_text octets)

-- the number at the head of a text, and the text behind it
unfoldable pub read_number : ℕ → List ℕ → ℕ × List ℕ
read_number n [] = (n, [])
read_number n (c ∷ text) = if is_digit c then read_number (10 * n + (c - 48)) text else (n, c ∷ text)

-- the octets of the digits behind a blank
abbrev pub read_digits : List ℕ → Option (List ℕ)
read_digits [] = Some []
read_digits (c ∷ text) = if c == 32 then octets_of_hex text else None

-- just so many octets
abbrev pub counted : ℕ → List ℕ → Option (List ℕ)
counted count octets = if length octets == count then Some octets else None

abbrev pub read_counted : ℕ × List ℕ → Option (List ℕ)
read_counted found = option_and_then (counted found.0) (read_digits found.1)

-- the octets of generic data
abbrev pub read_generic : List ℕ → Option (List ℕ)
read_generic (a ∷ b ∷ c ∷ text) = if a == 92 then if b == 35 then if c == 32 then read_counted (read_number 0 text) else None else None else None
read_generic text = None
