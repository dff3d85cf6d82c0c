-- The slots of a table, each with a key and mostly with a value.
use Rattle.std.specs.Prelude.{◌≡◌, ℕ, zero, suc, ◌<◌, ◌≤◌, Bool, false, List, [], ◌∷◌, length, Option, Some, None, is_none, unwrap_or, slice_index_or, slice_get, option_map}
use Rattle.number_table.specs.declared.slots.Slot.{Slot}

module _ {V : Type 0} where
  -- an entry before others, where there is one
  abbrev pub with_entry : ℕ → Option V → List (ℕ × V) → List (ℕ × V)
  with_entry key None es = es
  with_entry key (Some value) es = (key, value) ∷ es

  -- the entries that slots hold
  abbrev pub entries_in : List (Slot V) → List (ℕ × V)
  entries_in [] = []
  entries_in (s ∷ ss) = with_entry s.key s.value (entries_in ss)

  -- the keys rise, from the least that may be the first on
  abbrev pub Rising : ℕ → List (Slot V) → Type 0
  Rising least [] = Unit {0}
  Rising least (s ∷ ss) = (least ≤ s.key) × Rising (suc s.key) ss

  -- the slot of a key stands at a place
  pub record HasKeyAt (key : ℕ) (ss : List (Slot V)) (at : ℕ) : Type 0 where
    pub within : at < length ss
    pub same : (d : Slot V) → (slice_index_or ss at d).key ≡ key

  -- no slot has a key, which would go to a place
  pub record IsGapFor (key : ℕ) (ss : List (Slot V)) (at : ℕ) : Type 0 where
    pub within : at ≤ length ss
    pub before : (i : ℕ) (d : Slot V) → i < at → (slice_index_or ss i d).key < key
    pub behind : (i : ℕ) (d : Slot V) → at ≤ i → i < length ss → key < (slice_index_or ss i d).key

  -- the slots before a place are empty
  abbrev pub AreEmptyBefore : ℕ → List (Slot V) → Type 0
  AreEmptyBefore zero ss = Unit {0}
  AreEmptyBefore (suc n) [] = Unit {0}
  AreEmptyBefore (suc n) (s ∷ ss) = (s.value ≡ None) × AreEmptyBefore n ss

  -- a slot is at a place, and empty
  abbrev pub empty_at : ℕ → List (Slot V) → Bool
  empty_at n ss = unwrap_or (option_map (λ s. is_none s.value) (slice_get ss n)) false

  -- slots with rising keys, so many of which hold a value, the first of them at a place or behind it
  pub record AreSlots (len front : ℕ) (ss : List (Slot V)) : Type 0 where
    pub rising : Rising 0 ss
    pub counted : len ≡ length (entries_in ss)
    pub passed : AreEmptyBefore front ss
