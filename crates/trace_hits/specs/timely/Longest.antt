-- The request that waits longest behind rows.
use Rattle.std.specs.Prelude.{◌≡◌, ℕ, suc, ◌≤◌, true, false, List, [], ◌∷◌, take, Option, Some, None}
use Rattle.client_request.specs.declared.event.Row.{Row}
use Rattle.right_trace.specs.Trace.{History, Conf, after}
use Rattle.right_trace.specs.{Requests.waits, Causes.DeadlineHasPassed}
use Rattle.trace_hits.specs.timely.Timely.{IsUntimely}
use Rattle.trace_hits.specs.timely.Waiting.{nothing, after_rows, first_of}

-- what happened once these rows are done
abbrev pub behind : List Row → History → History
behind [] h = h
behind (row ∷ rows) h = behind rows (after row h)

-- as a forward pass finds it
abbrev pub longest : List Row → Option ℕ
longest rows = first_of (after_rows rows nothing).numbers

-- none waits, or of those that wait this one was asked first
abbrev pub IsFirst : History → Option ℕ → Type 0
IsFirst h None = (k : ℕ) → waits k h ≡ false
IsFirst h (Some n) = (waits n h ≡ true) × ((k : ℕ) → waits k h ≡ true → n ≤ k)

abbrev pub IsLongest : List Row → Option ℕ → Type 0
IsLongest rows o = IsFirst (behind rows []) o

-- the request that waits longest behind row n, and that its timeout has passed there
pub record IsNamed (c : Conf) (rows : List Row) (n : ℕ) : Type 0 where
  pub request : ℕ
  pub waits_longest : longest (take (suc n) rows) ≡ Some request
  pub late : DeadlineHasPassed c request (behind (take (suc n) rows) [])

abbrev pub LateAreNamed : Type 0
LateAreNamed = (c : Conf) (rows : List Row) (n : ℕ) → IsUntimely (Some n) c [] rows → IsNamed c rows n
