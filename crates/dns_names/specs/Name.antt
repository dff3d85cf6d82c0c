-- A name in a message, as RFC 1035 4.1.4 has it.
use Rattle.std.specs.Prelude.{◌≡◌, ◌⊎◌, ◌<◌, ◌≤◌, ℕ, zero, suc, ◌+◌, ◌-◌, ◌*◌, ◌^◌, List, [], ◌∷◌, ◌++◌, length, Option, Some, None, option_and_then, option_map, IsSome, Bool, map, slice_get, slice_range, nat_lt, nat_le, ◌==◌, ◌&&◌, if◌then◌else◌}
use Rattle.std.specs.Option.{option_map_or}
use Rattle.std.specs.List.{AllByRecursion}
use Rattle.std.specs.Cmp.Lexicographic.{pointwise}
use Rattle.std.specs.Ordering.{on}
use Rattle.std.specs.Char.{to_ascii_lowercase}
use Rattle.dns_names.specs.declared.name.Head.{Head}
use Rattle.dns_names.specs.declared.name.Head.TheVariants.{Root, Label, Pointer}

-- A name is its labels, the root's empty one left out.
abbrev pub Labels : Type 0
Labels = List (List ℕ)

-- how many octets it has uncompressed: a length octet before each label, and the root's
abbrev pub octet_count : Labels → ℕ
octet_count [] = 1
octet_count (label ∷ labels) = 1 + length label + octet_count labels

-- Two octets from 0xC0 on name a place, before the first of them.
abbrev pub pointer : ℕ → ℕ → ℕ → Option Head
pointer at high low =
    let place = (high - 192) * 256 + low in
    if nat_lt place at then Some (Pointer place) else None

-- The octet at the head of a label: 0 is the root, up to 63 a length, from 0xC0 on a pointer, and the rest nothing.
abbrev pub head_from : List ℕ → ℕ → ℕ → Option Head
head_from octets at n =
    if n == 0 then Some Root
    else if nat_lt n 64 then (if nat_le (at + 1 + n) (length octets) then Some (Label n) else None)
    else if nat_lt n 192 then None
    else option_and_then (pointer at n) (slice_get octets (at + 1))

unfoldable pub head_at : List ℕ → ℕ → Option Head
head_at octets at = option_and_then (head_from octets at) (slice_get octets at)

-- where the octets after a head and its label stand
abbrev pub head_end : ℕ → Head → ℕ
head_end at Root = at + 1
head_end at (Label n) = at + 1 + n
head_end at (Pointer place) = at + 2

-- a name as it was read: its labels, where the octets after it stand, and how many pointers were followed
pub record Found : Type 0 where
  pub labels : Labels
  pub end : ℕ
  pub pointers : ℕ

abbrev pub labelled : List ℕ → Found → Found
labelled label f = record f { labels = label ∷ f.labels }

abbrev pub pointed : ℕ → Found → Found
pointed end f = record { labels = f.labels; end = end; pointers = f.pointers + 1 }

abbrev pub stepped : List ℕ → ℕ → (ℕ → Option Found) → Head → Option Found
stepped octets at from Root = Some (record { labels = []; end = at + 1; pointers = 0 })
stepped octets at from (Label n) = option_map (labelled (slice_range octets (at + 1) (at + 1 + n))) (from (at + 1 + n))
stepped octets at from (Pointer place) = option_map (pointed (at + 2)) (from place)

-- label by label, in at most so many steps
unfoldable pub walk : ℕ → List ℕ → ℕ → Option Found
walk zero octets at = None
walk (suc steps) octets at = option_and_then (stepped octets at (walk steps octets)) (head_at octets at)

-- at most 255 pointers, and at most 255 octets uncompressed
abbrev pub in_limits : Found → Option Found
in_limits f = if nat_le f.pointers 255 && nat_le (octet_count f.labels) 255 then Some f else None

-- The name at a place. 255 pointers, 127 labels and the root are 383 steps.
unfoldable pub name_at : List ℕ → ℕ → Option Found
name_at octets at = option_and_then in_limits (walk 383 octets at)

-- its labels, or none where none is read
abbrev pub labels_at : List ℕ → ℕ → Labels
labels_at octets at = option_map_or (λ f. f.labels) (name_at octets at) []

-- The same in the words of the RFC, as a relation: what the octets at a place say.
pub data Says (octets : List ℕ) (at : ℕ) : Head → Type 0 where
  says_root : slice_get octets at ≡ Some 0 → Says octets at Root
  says_label : (n : ℕ) → slice_get octets at ≡ Some n → 0 < n → n < 64 → at + 1 + n ≤ length octets → Says octets at (Label n)
  says_pointer : (high low place : ℕ) → slice_get octets at ≡ Some (192 + high) → slice_get octets (at + 1) ≡ Some low
      → place ≡ high * 256 + low → place < at → Says octets at (Pointer place)

-- From a place on these labels stand, the octets after the name stand at end, and so many pointers are followed.
pub data IsName (octets : List ℕ) : ℕ → Labels → ℕ → ℕ → Type 0 where
  at_root : (at : ℕ) → Says octets at Root → IsName octets at [] (at + 1) 0
  at_label : (at n : ℕ) (labels : Labels) (end pointers : ℕ) → Says octets at (Label n)
      → IsName octets (at + 1 + n) labels end pointers
      → IsName octets at (slice_range octets (at + 1) (at + 1 + n) ∷ labels) end pointers
  at_pointer : (at place : ℕ) (labels : Labels) (end pointers : ℕ) → Says octets at (Pointer place)
      → IsName octets place labels end pointers → IsName octets at labels (at + 2) (pointers + 1)

-- a label that a name may have
abbrev pub IsLabel : List ℕ → Type 0
IsLabel label = (0 < length label) × (length label < 64)

-- a name that may be written
abbrev pub IsLegal : Labels → Type 0
IsLegal labels = AllByRecursion IsLabel labels × (octet_count labels ≤ 255)

-- its octets without compression
abbrev pub spelling : Labels → List ℕ
spelling [] = 0 ∷ []
spelling (label ∷ labels) = length label ∷ label ++ spelling labels

-- without case: two names are the same where these are equal
abbrev pub lowered : Labels → Labels
lowered labels = map (map to_ascii_lowercase) labels

abbrev pub same_name : Labels → Labels → Bool
same_name = on lowered (pointwise (pointwise ◌==◌))

-- the labels that are left after some steps
unfoldable pub labels_within : ℕ → List ℕ → ℕ → Labels
labels_within steps octets at = option_map_or (λ f. f.labels) (walk steps octets at) []

-- the next label, between from and to, and the steps that are left behind it
pub record NextLabel (steps : ℕ) (octets : List ℕ) (at from to left : ℕ) : Type 0 where
  pub order : from ≤ to
  pub within : to ≤ length octets
  pub labels : labels_within steps octets at ≡ slice_range octets from to ∷ labels_within left octets to
  pub goes_on : IsSome (walk left octets to)

-- octets that a name may own: its spelling, or none for the root
abbrev pub IsOwn : List ℕ → Type 0
IsOwn octets = IsLegal (labels_at octets 0) × ((octets ≡ []) ⊎ (octets ≡ spelling (labels_at octets 0)))

-- octets that spell a legal name
abbrev pub Spells : List ℕ → Type 0
Spells octets = (labels : Labels) × IsLegal labels × (octets ≡ spelling labels)

-- each number is one of an octet
abbrev pub AreOctets : Labels → Type 0
AreOctets labels = AllByRecursion (AllByRecursion (λ n. n < 2 ^ 8)) labels
