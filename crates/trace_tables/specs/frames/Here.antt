-- What the outs of the newest row made of places, the row's event not counted.
use Rattle.std.specs.Prelude.{◌≡◌, ℕ, Bool, true, false, is_some, List, [], ◌∷◌, Option, Some, None}
use Rattle.number_table.specs.Entries.{puts, entry_at}
use Rattle.client_request.specs.declared.event.{Event.Event, Out.Out}
use Rattle.client_request.specs.declared.event.Out.TheVariants.{OpenDgram, OpenStream, Close}
use Rattle.right_trace.specs.Trace.{History, Came, Put}
use Rattle.right_trace.specs.Places.{Stand, Unused, is_live, stand_untold, closed_here}
use Rattle.right_trace.specs.Right.{WasLive}
use Rattle.trace_tables.specs.declared.places.{Place.Place, Stand.Stand as Seen}
use Rattle.trace_tables.specs.declared.places.Stand.TheVariants as seen
use Rattle.trace_tables.specs.Known.{Known as PlacesKnown, stand_of}
use Rattle.trace_tables.specs.declared.frames.here.Here.{Here}

abbrev pub nothing : Here
nothing = record { untold = []; closed = [] }

-- how a place stands: as the row's outs have it, or as it was before the row
abbrev pub stand_here : Option Seen → Option Place → Option Seen
stand_here (Some x) o = Some x
stand_here None (Some x) = Some x.stand
stand_here None None = None

abbrev pub stand_at : (p : ℕ) → (past : List (ℕ × Place)) → Here → Option Seen
stand_at p past t = stand_here (entry_at p t.untold) (entry_at p past)

-- a place that no out opened is opening
abbrev pub opens_at : (p : ℕ) → Option Seen → Here → Here
opens_at p None t = record t { untold = puts p seen.Opening t.untold }
opens_at p (Some x) t = t

-- what closes a place that is known
abbrev pub untold_closed : (p : ℕ) → Option Seen → List (ℕ × Seen) → List (ℕ × Seen)
untold_closed p None t = t
untold_closed p (Some x) t = puts p seen.Gone t

abbrev pub closes_at : (p : ℕ) → Option Seen → Here → Here
closes_at p o t = record { untold = untold_closed p o t.untold; closed = puts p tt t.closed }

-- what an out makes of it, over the places as they were before the row
abbrev pub has_put : Out → (past : List (ℕ × Place)) → Here → Here
has_put (OpenDgram p s) past t = opens_at p (stand_at p past t) t
has_put (OpenStream p s) past t = opens_at p (stand_at p past t) t
has_put (Close p) past t = closes_at p (stand_at p past t) t
has_put _ past t = t

abbrev pub as_stand : Option Seen → Stand
as_stand None = Unused
as_stand (Some x) = stand_of x

abbrev pub was_live_seen : (p : ℕ) → (past : List (ℕ × Place)) → Here → Bool
was_live_seen p past t = is_live (as_stand (stand_at p past t))

abbrev pub closed_seen : (p : ℕ) → Here → Bool
closed_seen p t = is_some (entry_at p t.closed)

-- what is kept is what the definitions say
pub record Known (past : List (ℕ × Place)) (h : History) (t : Here) : Type 0 where
  pub untold : (p : ℕ) → as_stand (stand_at p past t) ≡ stand_untold p h
  pub closes : (p : ℕ) → closed_seen p t ≡ closed_here p h

-- a row begins with nothing kept, and it goes on over outs
pub record GoesOn : Type 0 where
  pub begins : (h : History) (past : List (ℕ × Place)) (e : Event) → PlacesKnown h past → Known past (Came e ∷ h) nothing
  pub out : (h : History) (past : List (ℕ × Place)) (t : Here) (o : Out) → Known past h t → Known past (Put o ∷ h) (has_put o past t)
  pub live : (h : History) (past : List (ℕ × Place)) (t : Here) (p : ℕ) → Known past h t → was_live_seen p past t ≡ true → WasLive p h
  pub was_live : (h : History) (past : List (ℕ × Place)) (t : Here) (p : ℕ) → Known past h t → WasLive p h → was_live_seen p past t ≡ true
