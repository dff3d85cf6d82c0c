-- A zone in numbers and hexadecimal digits alone, a record a line.
use Rattle.std.specs.Prelude.{ℕ, ◌/◌, ◌%◌, List, [], ◌∷◌, ◌++◌, codes, decimal, Option, None, Some}
use Rattle.std.specs.Char.{digit_char}
use Rattle.std.specs.List.{flat_map}
use Rattle.dns_names.specs.Name.{Found, name_at}
use Rattle.dns_names.specs.Text.{name_text}
use Rattle.zone_records.specs.declared.record.ZoneRecord.{ZoneRecord}

-- two lower-case hexadecimal digits
abbrev pub octet_digits : ℕ → List ℕ
octet_digits octet = digit_char (octet / 16) ∷ digit_char (octet % 16) ∷ []

-- two digits for each octet, and a hyphen for no octet
abbrev pub hex_word : List ℕ → List ℕ
hex_word [] = codes "-"
hex_word (octet ∷ octets) = flat_map octet_digits (octet ∷ octets)

-- an owner without a final dot, where its octets are a name
abbrev pub named : Option Found → List ℕ
named None = []
named (Some found) = name_text found.labels

-- the owner, the seconds, the class and the type, with a blank behind each
abbrev pub head_of : ZoneRecord → List ℕ
head_of item = named (name_at item.owner 0) ++ 32 ∷ decimal item.ttl.0 ++ 32 ∷ decimal item.class.0 ++ 32 ∷ decimal item.rtype.0 ++ 32 ∷ []

abbrev pub record_line : ZoneRecord → List ℕ
record_line item = head_of item ++ hex_word item.rdata ++ 10 ∷ []

abbrev pub numbers_text : List ZoneRecord → List ℕ
numbers_text records = flat_map record_line records
