-- The first row at whose end a request waits past its timeout.
use Rattle.std.specs.Prelude.{◌≡◌, ℕ, zero, suc, ◌+◌, if◌then◌else◌, List, [], ◌∷◌, Option, Some, None}
use Rattle.client_request.specs.declared.event.Row.{Row}
use Rattle.right_trace.specs.Trace.{History, Conf, after}
use Rattle.right_trace.specs.Timely.{InTime, TimelyAfter}
use Rattle.trace_hits.specs.declared.timely.waiting.Waiting.{Waiting}
use Rattle.trace_hits.specs.timely.Waiting.{after_row, in_time_seen}

-- row n is the first at whose end not each request is in time
abbrev pub FailsAt : ℕ → Conf → (past : History) → List Row → Type 0
FailsAt zero c past (row ∷ rows) = InTime c (after row past) → ⊥
FailsAt (suc n) c past (row ∷ rows) = InTime c (after row past) × FailsAt n c (after row past) rows
FailsAt n c past [] = ⊥

-- this is the first such row, or there is none
abbrev pub IsUntimely : Option ℕ → Conf → (past : History) → List Row → Type 0
IsUntimely None c past rows = TimelyAfter c past rows
IsUntimely (Some n) c past rows = FailsAt n c past rows

-- the answer, of every configuration with this timeout
abbrev pub TellsUntimely : (timeout : ℕ) → List Row → Option ℕ → Type 0
TellsUntimely n rows o = (c : Conf) → c.timeout ≡ n → IsUntimely o c [] rows

-- the first of rows behind which it is seen so, counted from n
abbrev pub first_late : (timeout n : ℕ) → List Row → Waiting → Option ℕ
first_late l n [] t = None
first_late l n (row ∷ rows) t = if in_time_seen l (after_row row t) then first_late l (n + 1) rows (after_row row t) else Some n
