-- The names that stand in a message, found by their labels from the last on.
use Rattle.std.specs.Prelude.{◌≡◌, ℕ, ◌+◌, ◌-◌, ◌≤◌, ◌<◌, List, [], ◌∷◌, ◌++◌, length, take, drop, map, Option, Some, None, IsSome, Bool, true, false, nat_lt, nat_le, slice_index_or, ◌==◌, ◌&&◌, if◌then◌else◌, option_map}
use Rattle.std.specs.Char.{to_ascii_lowercase}
use Rattle.std.specs.List.{AllByRecursion}
use Rattle.dns_names.specs.Name.{Labels, name_at}
use Rattle.dns_base.specs.declared.suffixes.Known.{Known}
use Rattle.dns_base.specs.declared.suffixes.Suffixes.{Suffixes}
use Rattle.dns_base.specs.Compression.{Compressed, found_at}

-- What a name is found by: its labels from the last to the first, each behind its length, in lower case. It begins with the key of
-- each suffix of the name.
abbrev pub name_key : Labels → List ℕ
name_key [] = []
name_key (label ∷ labels) = name_key labels ++ (length label ∷ map to_ascii_lowercase label)

-- whether a list begins with another
abbrev pub begins : List ℕ → List ℕ → Bool
begins [] ys = true
begins (x ∷ xs) [] = false
begins (x ∷ xs) (y ∷ ys) = (x == y) && begins xs ys

-- the order of keys
abbrev pub at_most : List ℕ → List ℕ → Bool
at_most [] ys = true
at_most (x ∷ xs) [] = false
at_most (x ∷ xs) (y ∷ ys) = if x == y then at_most xs ys else nat_lt x y

-- the first place of each suffix of a name, the longest first
abbrev pub firsts_of : List ℕ → List ℕ → Labels → List (Option ℕ)
firsts_of octets places [] = []
firsts_of octets places (label ∷ labels) = found_at octets places (label ∷ labels) ∷ firsts_of octets places labels

-- a name is found by its key, and has the first places of its suffixes
pub record IsKnown (octets places : List ℕ) (known : Known) : Type 0 where
  pub labels : Labels
  pub key : known.key.items ≡ name_key labels
  pub firsts : known.firsts.items ≡ firsts_of octets places labels

-- each key is at most those behind it
abbrev pub Rise : List Known → Type 0
Rise [] = Unit {0}
Rise (known ∷ others) = AllByRecursion (λ other. at_most known.key.items other.key.items ≡ true) others × Rise others

-- none of the names ends with these labels
abbrev pub NoneEnds : Labels → List Known → Type 0
NoneEnds labels names = AllByRecursion (λ known. begins (name_key labels) known.key.items ≡ false) names

-- The names at the first places of a list are in the table, and are read from the first octets alone: what stands at one of
-- those places is a suffix of a name in the table, and each of these has the first places of its suffixes.
pub record IsIndex (s : Suffixes) (octets places : List ℕ) : Type 0 where
  pub long : s.octets ≤ length octets
  pub many : s.places ≤ length places
  pub read : AllByRecursion (λ place. IsSome (name_at (take s.octets octets) place)) (take s.places places)
  pub rise : Rise s.names.items
  pub known : AllByRecursion (IsKnown (take s.octets octets) (take s.places places)) s.names.items
  pub others : (labels : Labels) → 0 < length labels → NoneEnds labels s.names.items → found_at (take s.octets octets) (take s.places places) labels ≡ None

-- So many of the names are not behind a key, and the others are.
pub record IsPlaceOf (key : List ℕ) (names : List Known) (at : ℕ) : Type 0 where
  pub long : at ≤ length names
  pub before : AllByRecursion (λ known. at_most known.key.items key ≡ true) (take at names)
  pub behind : AllByRecursion (λ known. at_most known.key.items key ≡ false) (drop at names)

-- labels, each behind its length
abbrev pub spelled : Labels → List ℕ
spelled [] = []
spelled (label ∷ labels) = length label ∷ (label ++ spelled labels)

-- how many labels two lists of labels have in common at their beginning, by their octets
pub record IsCommon (a b : Labels) (count : ℕ) : Type 0 where
  pub few : count ≤ length a
  pub few_too : count ≤ length b
  pub same : take count a ≡ take count b
  pub longest : (p q : Labels) → a ≡ p ++ q → count < length p → begins (spelled p) (spelled b) ≡ false

-- The first places of the suffixes that a name has in common with one of some names, the longest first: no longer suffix
-- of it is one of theirs.
pub record IsShared (octets places : List ℕ) (labels : Labels) (names : List Known) (firsts : List (Option ℕ)) : Type 0 where
  pub few : length firsts ≤ length labels
  pub these : drop (length labels - length firsts) (firsts_of octets places labels) ≡ firsts
  pub longest : (front rest : Labels) → labels ≡ front ++ rest → length firsts < length rest → NoneEnds rest names

-- These are the first places that a name has in common with some of the names of a table, wherever its names are known and the key is the name's.
abbrev pub Shares : (key : List ℕ) → (all some : List Known) → List (Option ℕ) → Type 0
Shares key all some firsts = (octets places : List ℕ) (labels : Labels) → AllByRecursion (IsKnown octets places) all → key ≡ name_key labels → IsShared octets places labels some firsts

-- the first place of the suffix of so many labels, where the longest have none
abbrev pub from_end : List (Option ℕ) → ℕ → Option ℕ
from_end firsts count = if nat_le count (length firsts) then slice_index_or firsts (length firsts - count) None else None

-- each suffix of a name first stands where this list says
abbrev pub AreFirsts : List ℕ → List ℕ → Labels → List (Option ℕ) → Type 0
AreFirsts octets places labels firsts = (front rest : Labels) → labels ≡ front ++ rest → 0 < length rest → from_end firsts (length rest) ≡ found_at octets places rest

-- The first places of the suffixes of a name by two tables, of which the second is of places behind those in the first; the others are in neither.
pub record IsSearch (octets places : List ℕ) (labels : Labels) (known recent : List (Option ℕ)) (others : List ℕ) : Type 0 where
  pub known_places : List ℕ
  pub recent_places : List ℕ
  pub all : places ≡ known_places ++ (recent_places ++ others)
  pub known_are : AreFirsts octets known_places labels known
  pub recent_are : AreFirsts octets recent_places labels recent

-- what is found is the first place of a name among all places of which the search is
abbrev pub Finds : (octets : List ℕ) → Labels → (known recent : List (Option ℕ)) → (others : List ℕ) → Option ℕ → Type 0
Finds octets labels known recent others found = (places : List ℕ) → IsSearch octets places labels known recent others → found ≡ found_at octets places labels

-- the labels that are read at a place
abbrev pub read_at : List ℕ → ℕ → Option Labels
read_at octets place = option_map (λ found. found.labels) (name_at octets place)

-- the labels behind the first
abbrev pub tail : Labels → Labels
tail [] = []
tail (label ∷ labels) = labels

-- at these places stand a name and its suffixes, each one label shorter than the one before
abbrev pub AreRun : List ℕ → List ℕ → Labels → Type 0
AreRun octets [] labels = Unit {0}
AreRun octets (place ∷ places) labels = (0 < length labels) × (read_at octets place ≡ Some labels) × AreRun octets places (tail labels)

abbrev pub first_of : Option ℕ → Option ℕ → Option ℕ
first_of (Some place) other = Some place
first_of None other = other

-- how many labels of a name stand before its longest suffix that is found
abbrev pub count_before : Option ℕ → ℕ → ℕ
count_before (Some place) count = 0
count_before None count = count + 1

abbrev pub lead_count : Compressed → Labels → ℕ
lead_count before [] = 0
lead_count before (label ∷ labels) = count_before (found_at before.octets before.places (label ∷ labels)) (lead_count before labels)

-- and where that stands
abbrev pub lead_place : Compressed → Labels → Option ℕ
lead_place before [] = None
lead_place before (label ∷ labels) = first_of (found_at before.octets before.places (label ∷ labels)) (lead_place before labels)
