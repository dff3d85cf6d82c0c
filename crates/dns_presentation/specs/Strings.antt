-- Character strings as text: between quotes, with escapes (RFC 1035 5.1).
use Rattle.std.specs.Prelude.{ℕ, ◌+◌, ◌==◌, ◌&&◌, ◌||◌, nat_le, List, [], ◌∷◌, ◌++◌, Option, Some, None, option_map, if◌then◌else◌}
use Rattle.std.specs.List.{flat_map}
use Rattle.dns_names.specs.Text.{backslash, is_digit, is_printable, three_digits}
use Rattle.dns_presentation.specs.Octets.{numbered_octet}

abbrev pub quote : ℕ
quote = 34

-- A quote and a backslash stand behind a backslash, and what isn't printable is three digits behind one.
abbrev pub string_octet : ℕ → List ℕ
string_octet n =
    if (n == quote) || (n == backslash) then backslash ∷ n ∷ []
    else if nat_le 32 n && nat_le n 126 then n ∷ []
    else numbered_octet n

abbrev pub string_text : List ℕ → List ℕ
string_text octets = quote ∷ flat_map string_octet octets ++ quote ∷ []

-- how many octets a string has with the one that counts the others (RFC 1035 3.3)
abbrev pub counted_size : List ℕ → Option ℕ
counted_size [] = None
counted_size (count ∷ octets) = Some (1 + count)

-- the text of a string behind its count
abbrev pub counted_text : List ℕ → List ℕ
counted_text [] = []
counted_text (count ∷ octets) = string_text octets

-- An octet of an item of a list, in a text that may go on behind it: a comma stands behind two backslashes and a backslash behind
-- three, since the list and the text each have an escape (RFC 9460 A.1).
abbrev pub item_octet : ℕ → List ℕ
item_octet n =
    if n == 44 then backslash ∷ backslash ∷ n ∷ []
    else if n == backslash then backslash ∷ backslash ∷ backslash ∷ n ∷ []
    else if (n == quote) || ((n == 59) || ((n == 40) || (n == 41))) then backslash ∷ n ∷ []
    else if nat_le 33 n && nat_le n 126 then n ∷ []
    else numbered_octet n

-- the octets of a string, and the text behind it
abbrev pub Reading : Type 0
Reading = List ℕ × List ℕ

abbrev pub with_octet : ℕ → Reading → Reading
with_octet n reading = (n ∷ reading.0, reading.1)

-- The octets up to the closing quote. A backslash stands before three digits, which write an octet, or before a
-- printable character, which then has no other meaning.
unfoldable mutual
  pub read_octets : List ℕ → Option Reading
  read_octets [] = None
  read_octets (c ∷ text) =
      if c == quote then Some ([], text)
      else if c == backslash then read_escaped text
      else if is_printable c then option_map (with_octet c) (read_octets text)
      else None

  pub read_escaped : List ℕ → Option Reading
  read_escaped [] = None
  read_escaped (c ∷ text) =
      if is_digit c then read_numbered c text
      else if is_printable c then option_map (with_octet c) (read_octets text)
      else None

  pub read_numbered : ℕ → List ℕ → Option Reading
  read_numbered a [] = None
  read_numbered a (b ∷ []) = None
  read_numbered a (b ∷ c ∷ text) =
      if is_digit b && is_digit c && nat_le (three_digits a b c) 255
      then option_map (with_octet (three_digits a b c)) (read_octets text)
      else None

-- a whole string at the head of a text
abbrev pub read_string : List ℕ → Option Reading
read_string [] = None
read_string (c ∷ text) = if c == quote then read_octets text else None
