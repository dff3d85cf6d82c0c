-- The heap of timers beside the table of those that are set: the due moment of each by its number.
use Rattle.std.specs.Prelude.{◌≡◌, ℕ, ◌+◌, ◌*◌, ◌<◌, ◌≤◌, nat_eq, Bool, false, List, [], ◌∷◌, length, map, is_none, IsSome}
use Rattle.std.specs.declared.cmp.Ordering.{Ordering}
use Rattle.std.specs.Ordering.{nat_cmp, ordering_then}
use Rattle.std.specs.List.{All, Contains, IsDistinct}
use Rattle.std.specs.BinaryHeap.{IsHeap, KeepsHeap}
use Rattle.client_request.specs.declared.timers.Timer.{Timer}
use Rattle.client_request.specs.Numbered.{entry_at}
use Rattle.client_request.specs.Timers.{Entry, numbers_of}

-- The order of a heap whose greatest entry is that which goes first: the greater is due before, or then and has the lower number.
abbrev pub urgency_cmp : Entry → Entry → Ordering
urgency_cmp a b = ordering_then (nat_cmp b.0 a.0) (nat_cmp b.1.0 a.1.0)

-- a timer of the table, and its entry in the heap
abbrev pub timer_of : ℕ × ℕ → Timer
timer_of e = record { due = e.1; id = e.0 }

abbrev pub entry_of_pair : ℕ × ℕ → Entry
entry_of_pair e = (e.1, record { 0 = e.0 })

abbrev pub timers_of : List (ℕ × ℕ) → List Timer
timers_of table = map timer_of table

-- whether the timer at the top is cancelled
abbrev pub top_is_cancelled : List (ℕ × ℕ) → List Entry → Bool
top_is_cancelled table [] = false
top_is_cancelled table (top ∷ _) = is_none (entry_at top.1.0 table)

-- What stays where entries of cancelled timers are dropped.
pub record DropsCancelled (table : List (ℕ × ℕ)) (old new : List Entry) : Type 0 where
  pub order : KeepsHeap urgency_cmp old new
  pub once : IsDistinct nat_eq (numbers_of old) → IsDistinct nat_eq (numbers_of new)
  pub drawn : (n : ℕ) → All (λ e. e.1.0 < n) old → All (λ e. e.1.0 < n) new
  pub stands : (e : Entry) → IsSome (entry_at e.1.0 table) → Contains old e → Contains new e
  pub fewer : length new ≤ length old

-- The heap is in order, each number stands in it once, and each timer of the table does; the one at the top is set; at most as many as are set, and 16, are cancelled.
pub record IsHeapOf (next : ℕ) (table : List (ℕ × ℕ)) (heap : List Entry) : Type 0 where
  pub order : IsHeap urgency_cmp heap
  pub once : IsDistinct nat_eq (numbers_of heap)
  pub drawn : All (λ e. e.1.0 < next) heap
  pub stands : All (λ e. Contains heap (entry_of_pair e)) table
  pub top : top_is_cancelled table heap ≡ false
  pub bound : length heap ≤ 2 * length table + 16
