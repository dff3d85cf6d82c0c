-- What an edge gave while a zone was fetched, and what the connection made of it.
use Rattle.std.specs.Prelude.{◌≡◌, ℕ, ◌+◌, ◌≤◌, ◌==◌, if◌then◌else◌, List, [], ◌∷◌, ◌++◌, length, map, All, Option, None, Some, Result, Ok, Err}
use Rattle.std.specs.List.{flat_map}
use Rattle.client_request.specs.Board.{part_of, without_part}
use Rattle.client_request.specs.Request.{Request}
use Rattle.client_request.specs.Words.{IsGivenOn}
use Rattle.client_request.specs.declared.board.Posted.{Posted}
use Rattle.client_request.specs.declared.event.Event.{Event}
use Rattle.client_request.specs.declared.event.Out.{Out}
use Rattle.client_request.specs.declared.event.Out.TheVariants.{OpenStream}
use Rattle.client_request.specs.declared.event.Row.{Row}
use Rattle.client_request.specs.declared.event.What.{What}
use Rattle.client_request.specs.declared.event.What.TheVariants.{Opened, OpenFailed}
use Rattle.client_request.specs.declared.fault.Fault.{Fault}
use Rattle.client_steps.specs.Client.{row_step}
use Rattle.client_core.specs.declared.edge.Deed.{Deed}
use Rattle.client_core.specs.declared.edge.Deed.TheVariants.{Acted, Polled}
use Rattle.client_loop.specs.Turns.{AreGivenOn, RoseBy, acts_on, after_deeds, happened}
use Rattle.stream_turns.specs.Turns.{Client, begins, machine, started}
use Rattle.zone_transfer.specs.Reading.{AreRead, ReadSoFar}
use Rattle.zone_transfer.specs.declared.fault.FetchFault.{FetchFault}
use Rattle.zone_transfer.specs.declared.fault.FetchFault.TheVariants.{Connect, Transport, Refused, Xfr, Apply, TooLarge, NoReply, NoMemory}

-- what an edge tells of what was done with it, its count of polls, and the moments that a clock tells
pub record Scene : Type 0 where
  pub deeds : Option (List Deed)
  pub polls : ℕ
  pub moments : Option (List ℕ)

abbrev pub scene : Option (List Deed) → ℕ → (moments : Option (List ℕ)) → Scene
scene deeds polls moments = record { deeds = deeds; polls = polls; moments = moments }

-- what holds of the scenes before and after a call, by what an edge and a clock tell
abbrev pub between : {E C : Type 0} {R : Type 1} → (E → Option (List Deed)) → (E → ℕ) → (C → Option (List ℕ)) → (old new : E × C) → (Scene → Scene → R) → R
between deeds polls given old new P = P (scene (deeds old.0) (polls old.0) (given old.1)) (scene (deeds new.0) (polls new.0) (given new.1))

-- ---- the opening of place 0

-- how it ends by what an edge gave, if it does
abbrev pub opening_of : Option What → Option (Result (Unit {0}) Fault)
opening_of (Some (Opened place)) = if place == 0 then Some (Ok tt) else None
opening_of (Some (OpenFailed place fault)) = if place == 0 then Some (Err fault) else None
opening_of _ = None

-- The place was to be opened, and the edge gave these then, which left it opening.
pub record Opens (old new : Scene) (polled : List (Option What)) : Type 0 where
  pub still : All (λ p. opening_of p ≡ None) polled
  pub deeds : new.deeds ≡ after_deeds (Acted (OpenStream 0 0) ∷ map Polled polled) old.deeds
  pub polls : RoseBy (length polled) old.polls new.polls

-- It came to this end, behind what left it opening.
pub record EndsOpening (old new : Scene) (end : Result (Unit {0}) Fault) (before : List (Option What)) : Type 0 where
  pub last : Option What
  pub still : All (λ p. opening_of p ≡ None) before
  pub is : opening_of last ≡ Some end
  pub deeds : new.deeds ≡ after_deeds (Acted (OpenStream 0 0) ∷ map Polled (before ++ last ∷ [])) old.deeds
  pub polls : RoseBy (length before + 1) old.polls new.polls

-- the place is open from a moment on, and so many of the turns are left
pub record IsOpened (most moment left : ℕ) (old new : Scene) : Type 0 where
  pub before : List (Option What)
  pub ends : EndsOpening old new (Ok tt) before
  pub given : IsGivenOn old.moments new.moments moment
  pub left_are : length before + 1 + left ≡ most

-- as many turns as there may be left it opening
pub record NeverOpens (most : ℕ) (old new : Scene) : Type 0 where
  pub polled : List (Option What)
  pub opens : Opens old new polled
  pub all : length polled ≡ most

-- why it is not open
abbrev pub IsClosed : (most : ℕ) → FetchFault → (old new : Scene) → Type 0
IsClosed most (Connect fault) old new = (polled : List (Option What)) × EndsOpening old new (Err fault) polled
IsClosed most NoReply old new = NeverOpens most old new
IsClosed most NoMemory old new = Unit {0}
IsClosed most (Transport _) old new = ⊥
IsClosed most (Refused _) old new = ⊥
IsClosed most (Xfr _) old new = ⊥
IsClosed most (Apply _) old new = ⊥
IsClosed most TooLarge old new = ⊥

-- ---- the turns

-- the messages that were taken before it, what the edge gave, and the row that came of it
pub record Turn : Type 0 where
  pub messages : List (List ℕ)
  pub polled : Option What
  pub row : Row

abbrev pub deeds_of : Turn → List Deed
deeds_of turn = Polled turn.polled ∷ acts_on turn.row.outs

abbrev pub messages_of : List Turn → List (List ℕ)
messages_of turns = flat_map (λ turn. turn.messages) turns

abbrev pub moments_of : List Turn → List ℕ
moments_of turns = map (λ turn. turn.row.event.moment.0) turns

abbrev pub with_rest : List Posted → Client → Client
with_rest rest c = record c { layer = record c.layer { board = rest } }

-- Messages stand for the transfer, one behind the other, and without them these results are left.
abbrev pub Stand : List Posted → List (List ℕ) → (rest : List Posted) → Type 0
Stand board [] rest = board ≡ rest
Stand board (message ∷ messages) rest = (part_of 0 board ≡ Some (Ok (Some message))) × Stand (without_part 0 board) messages rest

-- The messages that stand are taken until nothing stands, and then the connection steps by what the edge gives.
pub record LeadsTo (before : Client) (turn : Turn) (after : Client) : Type 0 where
  pub rest : List Posted
  pub taken : Stand before.layer.board turn.messages rest
  pub none : part_of 0 rest ≡ None
  pub of_poll : turn.row.event.what ≡ happened turn.polled
  pub step : row_step machine 0 turn.row.event (with_rest rest before) ≡ Some (turn.row, after)

abbrev pub Lead : Client → List Turn → Client → Type 0
Lead before [] after = before ≡ after
Lead before (turn ∷ turns) after = (mid : Client) × LeadsTo before turn mid × Lead mid turns after

-- The turns were made between two scenes.
pub record Turned (first : Client) (old : Scene) (turns : List Turn) (last : Client) (new : Scene) : Type 0 where
  pub leads : Lead first turns last
  pub deeds : new.deeds ≡ after_deeds (flat_map deeds_of turns) old.deeds
  pub polls : RoseBy (length turns) old.polls new.polls
  pub moments : AreGivenOn old.moments new.moments (moments_of turns)

-- ---- from the beginning

-- The place was opened at a moment, and this was asked for there, which left the connection so; so many of a million turns are left.
pub record Asks (request : Request) (words : ℕ → ℕ) (first : Client) (left : ℕ) (old new : Scene) : Type 0 where
  pub polled : List (Option What)
  pub opened : Option What
  pub still : All (λ p. opening_of p ≡ None) polled
  pub opens : opening_of opened ≡ Some (Ok tt)
  pub moment : ℕ
  pub outs : List Out
  pub asks : begins words request (started 0 moment) ≡ Some (outs, first)
  pub deeds : new.deeds ≡ after_deeds ((Acted (OpenStream 0 0) ∷ map Polled (polled ++ opened ∷ [])) ++ acts_on outs) old.deeds
  pub polls : RoseBy (length polled + 1) old.polls new.polls
  pub given : IsGivenOn old.moments new.moments moment
  pub left_are : length polled + 1 + left ≡ 1000000

-- A number would pass 64 bits where it is asked for.
pub record StopsAsked (request : Request) (words : ℕ → ℕ) (old new : Scene) : Type 0 where
  pub polled : List (Option What)
  pub opened : EndsOpening old new (Ok tt) polled
  pub moment : ℕ
  pub given : IsGivenOn old.moments new.moments moment
  pub stops : begins words request (started 0 moment) ≡ None

-- Turns were made then, as many as are left at most, behind which more messages are taken; what is read of all of them is this.
pub record Passes (s : ReadSoFar) (first : Client) (left : ℕ) (t : ReadSoFar) (old new : Scene) : Type 0 where
  pub turns : List Turn
  pub last : Client
  pub turned : Turned first old turns last new
  pub within : length turns ≤ left
  pub tail : List (List ℕ)
  pub rest : List Posted
  pub taken : Stand last.layer.board tail rest
  pub read : AreRead s (messages_of turns ++ tail) t

-- A number would pass 64 bits at some event, at the moment that the clock gave.
pub record StopsTurned (s : ReadSoFar) (first : Client) (left : ℕ) (old new : Scene) : Type 0 where
  pub mid : Scene
  pub state : ReadSoFar
  pub passed : Passes s first left state old mid
  pub none : part_of 0 passed.rest ≡ None
  pub event : Event
  pub stops : row_step machine 0 event (with_rest passed.rest passed.last) ≡ None
  pub given : IsGivenOn mid.moments new.moments event.moment.0
