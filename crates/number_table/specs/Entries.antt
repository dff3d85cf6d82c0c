-- Tables by number, as lists of entries in rising order of keys.
use Rattle.std.specs.Prelude.{ℕ, List, Option}
use Rattle.std.specs.Ordering.{nat_cmp}
use Rattle.std.specs.BTreeMap.{insert_entry, is_at}
use Rattle.std.specs.Map.{lookup, remove_entry}

-- a table with an entry more, without one, and its entry
abbrev pub puts : {A : Type 0} → ℕ → A → List (ℕ × A) → List (ℕ × A)
puts key value table = insert_entry nat_cmp table key value

abbrev pub frees : {A : Type 0} → ℕ → List (ℕ × A) → List (ℕ × A)
frees key table = remove_entry (is_at (nat_cmp key)) table

abbrev pub entry_at : {A : Type 0} → ℕ → List (ℕ × A) → Option A
entry_at key table = lookup (is_at (nat_cmp key)) table
