-- The list that `proof_right`'s exact cache keeps beside the machine, and how it agrees with a table.
--
--   the list:   a first result, whose it was, and when ──► under each key for which it was stored
--   the table:  what stands for it ──► under the same key, at the same place
use Rattle.std.specs.Prelude.{◌≡◌, ℕ, if◌then◌else◌, List, [], ◌∷◌, map}
use Rattle.std.specs.List.{AllByRecursion}
use Rattle.lru.specs.LruCache.{lru_cache, put_entries}
use Rattle.right_trace.specs.Settings.{Settings}
use Rattle.right_trace.specs.Keys.{Key, key_of}
use Rattle.right_trace.specs.Parts.{IsIn}
use Rattle.proof_right.specs.machine.Client as machine
use Rattle.proof_right.specs.machine.Exact.{Value, value_of}
use Rattle.cache_rules.specs.Key.{same_key}
use Rattle.client_cache.specs.Keeping.{Entry}
use Rattle.proof_cache.specs.Standing.{Stands}

module _ (R : Key → Value → Entry → Type 0) where
  -- One by one they have the same key, and what is under it is so related.
  abbrev pub Agree : List (Key × Value) → List (Key × Entry) → Type 0
  Agree [] [] = Unit {0}
  Agree (e ∷ es) (t ∷ ts) = (e.0 ≡ t.0) × R t.0 e.1 t.1 × Agree es ts
  Agree _ _ = ⊥

-- what is kept under a key, as the machine stores it
abbrev pub stored_as : Key → Value → machine.Entry
stored_as k v = record { under = k; first = v.first; number = v.number; result = v.result; moment = v.moment }

-- what the table has under a key stands for what is listed
abbrev pub StandsFor : Settings → (now : ℕ) → Key → Value → Entry → Type 0
StandsFor s now k v e = Stands s now k e (stored_as k v)

abbrev pub AreAlike : Settings → (now : ℕ) → List (Key × Value) → List (Key × Entry) → Type 0
AreAlike s now = Agree (StandsFor s now)

-- each that is listed is stored
abbrev pub AreListed : (stored : List machine.Entry) → List (Key × Value) → Type 0
AreListed stored = AllByRecursion (λ (x : Key × Value). IsIn (stored_as x.0 x.1) stored)

-- what is listed, as it is stored
abbrev pub all_stored_as : List (Key × Value) → List machine.Entry
all_stored_as es = map (λ e. stored_as e.0 e.1) es

-- the list once a reply that leaves is stored, where it is
abbrev pub lists : (cap now : ℕ) → machine.Leaving → List (Key × Value) → List (Key × Value)
lists cap now z es = if z.is_stored then put_entries same_key (lru_cache es cap) (key_of z.asked) (value_of now z) else es

-- once all that leaves is
abbrev pub all_listed : (cap now : ℕ) → List machine.Leaving → List (Key × Value) → List (Key × Value)
all_listed cap now [] es = es
all_listed cap now (z ∷ zs) es = all_listed cap now zs (lists cap now z es)
