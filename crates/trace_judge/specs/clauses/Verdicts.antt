-- What is said of the rows of a trace and the events of a script: that all clauses are kept, or the least row where one isn't, and the first that isn't there.
use Rattle.std.specs.Prelude.{◌≡◌, ℕ, zero, suc, List, [], ◌∷◌}
use Rattle.client_request.specs.declared.event.{Event.Event, Row.Row}
use Rattle.right_trace.specs.Trace.{History, Conf, after}
use Rattle.right_trace.specs.Settings.{Settings}
use Rattle.trace_judge.specs.clauses.Clauses.{Clause, Events, Messages, Firsts, Causes, Orders, Prompts, Keeps}

-- the row keeps all clauses
abbrev pub KeepsAll : Conf → Settings → (past : History) → Event → Row → Type 0
KeepsAll c s past e row = (x : Clause) → Keeps x c s past e row

-- the row keeps all clauses that are asked before this one
abbrev pub KeepsBefore : Clause → Conf → Settings → (past : History) → Event → Row → Type 0
KeepsBefore Events c s past e row = Unit {0}
KeepsBefore Messages c s past e row = Keeps Events c s past e row
KeepsBefore Firsts c s past e row = Keeps Events c s past e row × Keeps Messages c s past e row
KeepsBefore Causes c s past e row = Keeps Events c s past e row × Keeps Messages c s past e row × Keeps Firsts c s past e row
KeepsBefore Orders c s past e row = Keeps Events c s past e row × Keeps Messages c s past e row × Keeps Firsts c s past e row × Keeps Causes c s past e row
KeepsBefore Prompts c s past e row = Keeps Events c s past e row × Keeps Messages c s past e row × Keeps Firsts c s past e row × Keeps Causes c s past e row × Keeps Orders c s past e row

-- this is the first clause that the row does not keep
abbrev pub BreaksFirst : Clause → Conf → Settings → (past : History) → Event → Row → Type 0
BreaksFirst x c s past e row = KeepsBefore x c s past e row × (Keeps x c s past e row → ⊥)

-- there is a row for each event and an event for each row, and each row keeps all clauses
abbrev pub AllKept : Conf → Settings → (past : History) → List Event → List Row → Type 0
AllKept c s past [] [] = Unit {0}
AllKept c s past (e ∷ es) (row ∷ rows) = KeepsAll c s past e row × AllKept c s (after row past) es rows
AllKept c s past _ _ = ⊥

-- Row n is the first that does not keep all clauses, and this is the first that it does not keep. A row without an event, and an event without a row, break the first clause there.
abbrev pub FailsAt : Clause → ℕ → Conf → Settings → (past : History) → List Event → List Row → Type 0
FailsAt x zero c s past (e ∷ es) (row ∷ rows) = BreaksFirst x c s past e row
FailsAt x (suc n) c s past (e ∷ es) (row ∷ rows) = KeepsAll c s past e row × FailsAt x n c s (after row past) es rows
FailsAt x zero c s past (e ∷ es) [] = x ≡ Events
FailsAt x zero c s past [] (row ∷ rows) = x ≡ Events
FailsAt x n c s past _ _ = ⊥

-- what is said of a trace
pub data Verdict : Type 0 where
  Right : Verdict
  Wrong : (clause : Clause) (row : ℕ) → Verdict

-- what is said is so
abbrev pub IsVerdict : Verdict → Conf → Settings → (past : History) → List Event → List Row → Type 0
IsVerdict Right c s past es rows = AllKept c s past es rows
IsVerdict (Wrong x n) c s past es rows = FailsAt x n c s past es rows
