-- Tables of lists, each with its newest item first.
use Rattle.std.specs.Prelude.{ℕ, List, [], ◌∷◌, Option, Some, None}
use Rattle.number_table.specs.Entries.{puts, frees, entry_at}

module _ {A : Type 0} where
  abbrev pub list_or_none : Option (List A) → List A
  list_or_none None = []
  list_or_none (Some xs) = xs

  -- the list of a key
  abbrev pub listed : (k : ℕ) → List (ℕ × List A) → List A
  listed k t = list_or_none (entry_at k t)

  -- an item is added to the list of a key
  abbrev pub adds : (k : ℕ) → A → List (ℕ × List A) → List (ℕ × List A)
  adds k x t = puts k (x ∷ listed k t) (frees k t)
