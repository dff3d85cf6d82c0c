-- One history of several threads: what each seat knows of it, and what a step makes of that.
use Rattle.std.specs.Prelude.{◌≡◌, ℕ, suc, ◌+◌, ◌≤◌, ◌==◌, true, false, if◌then◌else◌, nat_lt, List, [], ◌∷◌, ◌++◌, length}
use mathlib.Core.Option.{Option, none, some}
use mathlib.Core.List.{IsPrefix}
use lib.ListN.{get_elem?}
use Rattle.atomic_table.specs.Table.{State, Me, Step}
use Rattle.joint_history.specs.declared.view.View.{View}

module _ {E : Type 0} where
  -- the items of a caller, each with its place, where the first of the list stands at place k
  abbrev pub own_from : (E → ℕ) → ℕ → ℕ → List E → List (ℕ × E)
  own_from by n k [] = []
  own_from by n k (e ∷ es) = if by e == n then (k, e) ∷ own_from by n (suc k) es else own_from by n (suc k) es

  abbrev pub own : (E → ℕ) → ℕ → List E → List (ℕ × E)
  own by n log = own_from by n 0 log

  -- the longer of two histories, of which the shorter begins the other
  abbrev pub longer : List E → List E → List E
  longer v w = if nat_lt (length w) (length v) then v else w

  -- the first seat: it keeps the empty history
  abbrev pub first : View E
  first = record { seen = []; old = []; told = []; keeps = true; calls = false; number = 0; made = 0 }

  -- a seat whose view went into another's
  abbrev pub spent : View E
  spent = record { seen = []; old = []; told = []; keeps = false; calls = false; number = 0; made = 0 }

  -- a seat that has seen as much, and is nobody's
  abbrev pub copied : View E → View E
  copied v = record { seen = v.seen; old = v.seen; told = v.seen; keeps = false; calls = false; number = 0; made = 0 }

  -- the next caller's, and the seat that made it
  abbrev pub next_caller : View E → View E
  next_caller v = record { seen = v.seen; old = v.seen; told = v.seen; keeps = false; calls = true; number = v.made; made = 0 }

  abbrev pub one_more : View E → View E
  one_more v = record { seen = v.seen; old = v.old; told = v.told; keeps = v.keeps; calls = v.calls; number = v.number; made = v.made + 1 }

  -- the part of a view that keeps the history, and the rest of it
  abbrev pub keeper : View E → View E
  keeper v = record { seen = v.seen; old = v.seen; told = v.seen; keeps = v.keeps; calls = false; number = 0; made = v.made }

  abbrev pub without : View E → View E
  without v = record { seen = v.seen; old = v.old; told = v.told; keeps = false; calls = v.calls; number = v.number; made = v.made }

  -- a seat that takes the keeper's part in
  abbrev pub keeping : View E → View E → View E
  keeping v w = record { seen = w.seen; old = v.seen; told = w.seen; keeps = w.keeps; calls = v.calls; number = v.number; made = w.made }

  -- a seat that takes in what another has seen
  abbrev pub informed : View E → View E → View E
  informed v w = record { seen = longer v.seen w.seen; old = v.seen; told = w.seen; keeps = v.keeps; calls = v.calls; number = v.number; made = v.made }

  -- a seat that put items at the end of the history
  abbrev pub with_items : List E → View E → View E
  with_items items v = record { seen = v.seen ++ items; old = v.seen ++ items; told = v.seen ++ items; keeps = v.keeps; calls = v.calls; number = v.number; made = v.made }

  -- What the rule says of one seat: the history begins with what it has seen, and what it has seen begins with what it had seen
  -- and with what it was told. One seat keeps the history, and knows which numbers are given. A caller's number is its own, and all
  -- items of that number stand in what it had seen.
  pub record Fits (by : E → ℕ) (log : List E) (keeps_at : ℕ) (seats : ℕ → Option ℕ) (id : ℕ) (v : View E) : Type 0 where
    pub begins : IsPrefix v.seen log
    pub old : IsPrefix v.old v.seen
    pub told : IsPrefix v.told v.seen
    pub whole : v.keeps ≡ true → (id ≡ keeps_at) × (v.seen ≡ log) × ((n : ℕ) → v.made ≤ n → seats n ≡ none)
    pub own_items : v.calls ≡ true → (seats v.number ≡ some id) × (own by v.number log ≡ own by v.number v.old)

  -- The rule: there is one history, which the word counts.
  pub record Kept {S : Type 0} (by : E → ℕ) (s : State S (View E)) : Type 0 where
    pub log : List E
    pub keeps_at : ℕ
    pub seats : ℕ → Option ℕ
    pub words : s.words ≡ length log ∷ []
    pub each : (id : ℕ) (v : View E) → get_elem? s.views id ≡ some v → Fits by log keeps_at seats id v

  -- what a look tells: what was seen begins with what had been seen, and with what was told, and no item of the caller's came since
  pub record Knows (by : E → ℕ) (v : View E) : Type 0 where
    pub old : IsPrefix v.old v.seen
    pub told : IsPrefix v.told v.seen
    pub own_items : v.calls ≡ true → own by v.number v.seen ≡ own by v.number v.old

  abbrev pub Looks : {S : Type 0} → (E → ℕ) → Step S → Me S (View E) → ℕ → Me S (View E) → Type 0
  Looks by st m n m' = (m' ≡ m) × Knows by m.0

  -- what a step at the end of the history tells
  abbrev pub Adds : {S : Type 0} → (E → ℕ) → List E → Step S → Me S (View E) → ℕ → Me S (View E) → Type 0
  Adds by items st m n m' = (m' ≡ (with_items items m.0, m.1)) × (n ≡ length m.0.seen) × Knows by m.0
