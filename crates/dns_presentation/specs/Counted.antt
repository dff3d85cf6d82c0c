-- Data that is parts, one behind the other, each of which says how far it goes.
use Rattle.std.specs.Prelude.{ℕ, zero, suc, ◌&&◌, nat_le, nat_lt, List, [], ◌∷◌, ◌++◌, length, take, drop, Option, Some, None, option_and_then, option_map, if◌then◌else◌}
use Rattle.std.specs.List.{flat_map}
use Rattle.dns_presentation.specs.declared.counted.PartKind.{PartKind}
use Rattle.dns_presentation.specs.declared.counted.PartKind.TheVariants.{Text, Window, Prefix}
use Rattle.dns_presentation.specs.Prefixes.{prefix_size, prefix_text}
use Rattle.dns_presentation.specs.Strings.{counted_size, counted_text}
use Rattle.dns_presentation.specs.Types.{window_size, window_text}

-- a part at the front of octets, which has one at least, and what is behind it, where a function tells how many octets it has
abbrev pub split : List ℕ → ℕ → Option (List ℕ × List ℕ)
split octets count = if nat_lt 0 count && nat_le count (length octets) then Some (take count octets, drop count octets) else None

abbrev pub cut : (List ℕ → Option ℕ) → List ℕ → Option (List ℕ × List ℕ)
cut size octets = option_and_then (split octets) (size octets)

-- the parts that fill octets, in so many steps at most
unfoldable pub parts_within : (List ℕ → Option ℕ) → ℕ → List ℕ → Option (List (List ℕ))
parts_within size steps [] = Some []
parts_within size zero (n ∷ octets) = None
parts_within size (suc steps) (n ∷ octets) =
    option_and_then (λ found. option_map (λ parts. found.0 ∷ parts) (parts_within size steps found.1)) (cut size (n ∷ octets))

abbrev pub parts_of : (List ℕ → Option ℕ) → List ℕ → Option (List (List ℕ))
parts_of size octets = parts_within size (length octets) octets

-- how many octets the part at the front has, if one of the kind stands there: a string (RFC 1035 3.3), a window of types (RFC 4034
-- 4.1.2), an item of a list of prefixes (RFC 3123 4)
abbrev pub part_size : PartKind → List ℕ → Option ℕ
part_size Text = counted_size
part_size Window = window_size
part_size Prefix = prefix_size

-- the most octets that a part has
abbrev pub part_limit : PartKind → ℕ
part_limit Text = 256
part_limit Window = 34
part_limit Prefix = 131

abbrev pub part_text : PartKind → List ℕ → List ℕ
part_text Text = counted_text
part_text Window = window_text
part_text Prefix = prefix_text

-- a blank stands before a part, but before a window, each type of which has its own
abbrev pub lead : PartKind → List ℕ
lead Window = []
lead kind = 32 ∷ []

abbrev pub led_text : PartKind → List ℕ → List ℕ
led_text kind part = lead kind ++ part_text kind part

-- parts behind others
abbrev pub led_parts : PartKind → List ℕ → Option (List ℕ)
led_parts kind octets = option_map (flat_map (led_text kind)) (parts_of (part_size kind) octets)

-- parts with a blank between
abbrev pub spaced : PartKind → List (List ℕ) → List ℕ
spaced kind [] = []
spaced kind (first ∷ others) = part_text kind first ++ flat_map (led_text kind) others

abbrev pub spaced_parts : PartKind → List ℕ → Option (List ℕ)
spaced_parts kind octets = option_map (spaced kind) (parts_of (part_size kind) octets)

-- strings that fill octets, so many of them at least and at most
abbrev pub within_counts : ℕ → ℕ → List (List ℕ) → Option (List ℕ)
within_counts least most strings =
    if nat_le least (length strings) && nat_le (length strings) most then Some (spaced Text strings) else None

abbrev pub strings_text : ℕ → ℕ → List ℕ → Option (List ℕ)
strings_text least most octets = option_and_then (within_counts least most) (parts_of counted_size octets)
