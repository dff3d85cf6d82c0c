-- An edge in memory.
use Rattle.std.specs.Prelude.{ℕ, Bool, false, List, [], ◌∷◌, Option, None}
use Rattle.std.specs.Option.{option_map_or}
use Rattle.client_request.specs.declared.event.What.{What}
use Rattle.client_core.specs.Edge.{is_fault}
use Rattle.client_core.specs.declared.edge.Deed.{Deed}

-- the events that are left, what was done, the waits, and the counts of polls and of faults
pub record Kept : Type 0 where
  pub events : List (Option What)
  pub deeds : List Deed
  pub waits : List ℕ
  pub polls : ℕ
  pub faults : ℕ

abbrev pub is_fault_event : Option What → Bool
is_fault_event what = option_map_or is_fault what false

-- what the next poll gives: nothing past the list's end
abbrev pub next_event : List (Option What) → Option What
next_event [] = None
next_event (what ∷ more) = what

-- and what is left after it
abbrev pub later_events : List (Option What) → List (Option What)
later_events [] = []
later_events (what ∷ more) = more
