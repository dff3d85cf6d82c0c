-- Timers: a list of due moments and numbers, and a heap that holds each of them.
use Rattle.std.specs.Prelude.{◌≡◌, ℕ, ◌+◌, ◌-◌, ◌/◌, ◌^◌, ◌<◌, ◌==◌, ◌&&◌, ◌||◌, nat_lt, nat_le, Bool, false, if◌then◌else◌, List, [], ◌∷◌, ◌++◌, length, map, find, fold, slice_index_or, Option, Some, None, MatchOption}
use Rattle.std.specs.List.{position, remove}
use Rattle.client_request.specs.declared.timers.Timer.{Timer}
use Rattle.client_request.specs.declared.timers.TimerId.{TimerId}
use Rattle.client_request.specs.declared.error.Error.{Error}
use Rattle.client_request.specs.declared.error.Error.TheVariants.{NoMemory, NumbersUsed}

-- the number that is next, and the timers that are set, in the order in which they were set
pub record TimerList : Type 0 where
  pub next : ℕ
  pub set : List Timer

-- A timer goes before another where it is due before, or then and has the lower number.
abbrev pub is_before : Timer → Timer → Bool
is_before t u = nat_lt t.due u.due || (t.due == u.due && nat_lt t.id u.id)

-- the one of two that goes first
abbrev pub earlier : Option Timer → Timer → Option Timer
earlier None t = Some t
earlier (Some u) t = if is_before t u then Some t else Some u

-- the timer that goes first
abbrev pub next_due : List Timer → Option Timer
next_due ts = fold earlier None ts

abbrev pub removed_at : List Timer → Option ℕ → List Timer
removed_at ts None = ts
removed_at ts (Some i) = remove ts i

-- without the timer of this number
abbrev pub without_timer : ℕ → List Timer → List Timer
without_timer id ts = removed_at ts (position (λ t. t.id == id) ts)

-- the first timer, where it is due at a moment
abbrev pub if_due : ℕ → Option Timer → Option Timer
if_due now None = None
if_due now (Some t) = if nat_le t.due now then Some t else None

abbrev pub due_now : ℕ → List Timer → Option Timer
due_now now ts = if_due now (next_due ts)

abbrev pub with_timer : ℕ → TimerList → TimerList
with_timer due ts = record { next = ts.next + 1; set = ts.set ++ record { due = due; id = ts.next } ∷ [] }

abbrev pub cancelled : ℕ → TimerList → TimerList
cancelled id ts = record ts { set = without_timer id ts.set }

-- A number can be drawn where the one after it is a number of 64 bits too.
abbrev pub can_draw : ℕ → Bool
can_draw n = nat_lt (n + 1) (2 ^ 64)

abbrev pub fired_at : TimerList → Option Timer → TimerList
fired_at ts None = ts
fired_at ts (Some t) = cancelled t.id ts

-- once the first timer has fired, where it is due
abbrev pub fired : ℕ → TimerList → TimerList
fired now ts = fired_at ts (due_now now ts.set)

-- the two refusals of a call that draws a number
abbrev pub IsWant : Error → Type 0
IsWant NoMemory = Unit {0}
IsWant NumbersUsed = Unit {0}
IsWant _ = ⊥

-- ---- the heap

-- an entry: when a timer is due, and its number
abbrev pub Entry : Type 0
Entry = ℕ × TimerId

abbrev pub entry_of : Timer → Entry
entry_of t = (t.due, record { 0 = t.id })

-- the numbers that stand in a heap
abbrev pub numbers_of : List Entry → List ℕ
numbers_of heap = map (λ e. e.1.0) heap

-- An entry goes before another as their timers do.
abbrev pub goes_before : Entry → Entry → Bool
goes_before a b = nat_lt a.0 b.0 || (a.0 == b.0 && nat_lt a.1.0 b.1.0)

-- the timer of this number that is set
abbrev pub timer_at : ℕ → List Timer → Option Timer
timer_at id ts = find (λ t. t.id == id) ts

-- An entry is that of the timer that is set by its number; where none is, the number was drawn, and its timer is cancelled.
abbrev pub IsSetOrCancelled : TimerList → Entry → Type 0
IsSetOrCancelled ts e = MatchOption (timer_at e.1.0 ts.set) (e.1.0 < ts.next) (λ t. entry_of t ≡ e)

-- No entry goes before the one at half its place.
abbrev pub ParentsGoFirst : List Entry → Type 0
ParentsGoFirst heap =
    (i : ℕ) (d : Entry) → 0 < i → i < length heap → goes_before (slice_index_or heap i d) (slice_index_or heap ((i - 1) / 2) d) ≡ false
