-- Whether a stream place may be opened.
use Rattle.std.specs.Prelude.{ℕ, ◌&&◌, ◌||◌, not, Bool, List, Option}
use Rattle.number_table.specs.Entries.{entry_at}
use Rattle.right_trace.specs.Trace.{History, Conf}
use Rattle.right_trace.specs.Places.{is_opening, is_alive}
use Rattle.right_trace.specs.Orderly.{MayOpenStream}
use Rattle.trace_tables.specs.declared.places.Place.{Place}
use Rattle.trace_tables.specs.Known as places_seen
use Rattle.trace_tables.specs.Known.{stand_seen}
use Rattle.trace_points.specs.questions.Outs.{Tells}
use Rattle.trace_tables.specs.sets.Sets.{members, some_of}
use Rattle.trace_outs.specs.declared.loads.loads.Loads.{Loads}
use Rattle.trace_outs.specs.declared.loads.held.Held.{Held}
use Rattle.trace_outs.specs.loads.Loads as loads
use Rattle.trace_outs.specs.loads.Held as held
use Rattle.trace_outs.specs.loads.Held.{full_seen}

-- a place is in the way of another: it opens, or it is alive and not all its ids are held
abbrev pub blocks : Option Place → (full : Bool) → Bool
blocks o b = is_opening (stand_seen o) || (is_alive (stand_seen o) && not b)

abbrev pub blocks_at : List (ℕ × Place) → Held → (p : ℕ) → Bool
blocks_at places t p = blocks (entry_at p places) (full_seen p t)

abbrev pub may_open_seen : (s : ℕ) → List (ℕ × Place) → Loads → Held → Bool
may_open_seen s places l t = not (some_of (blocks_at places t) (members s l.streams))

-- the answer, of every history that the tables know
abbrev pub TellsOpenStream : (s : ℕ) → List (ℕ × Place) → Loads → Held → Bool → Type 0
TellsOpenStream s places l t b = (c : Conf) (h : History) → places_seen.Known h places → loads.Known c h l → held.Known h t → Tells (MayOpenStream s h) b
