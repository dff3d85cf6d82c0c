-- A request that is asked, and the turns until its reply.
use Rattle.std.specs.Prelude.{◌≡◌, ℕ, ◌≤◌, List, [], ◌∷◌, ◌++◌, length, map, Option, None, Some, Result}
use Rattle.std.specs.List.{All, flat_map}
use Rattle.client_request.specs.Request.{Request}
use Rattle.client_request.specs.declared.error.Error.{Error}
use Rattle.client_request.specs.declared.event.Event.{Event}
use Rattle.client_request.specs.declared.event.Row.{Row}
use Rattle.client_request.specs.declared.event.What.{What}
use Rattle.client_request.specs.declared.event.What.TheVariants.{Ask}
use Rattle.client_steps.specs.Client.{plain_rows}
use Rattle.client_steps.specs.Whole.{Client, Whole, machine, client_with}
use Rattle.client_core.specs.declared.edge.Deed.{Deed}
use Rattle.client_loop.specs.Replies.{EndsWith, first_reply}
use Rattle.client_loop.specs.Turns.{Turn, IsOfPoll, RoseBy, AreGivenOn, ArePolledOn, AreKept, Leads, acts_on, after_deeds, after_waits, deeds_of, events_of, happened, moments_of}
use Rattle.right_trace.specs.InOctets.{AllInOctets}
use Rattle.right_trace.specs.Timely.{AllAskedInOctets}

-- the row in which the request was asked, and those of the turns
abbrev pub rows_of : Row → List Turn → List Row
rows_of asking turns = asking ∷ map (λ turn. turn.row) turns

-- A client, the words that come, what its edge tells of what was done with it and of its waits, the edge's count of polls, and the moments that its clock tells.
pub record Scene : Type 0 where
  pub client : Whole
  pub words : ℕ → ℕ
  pub deeds : Option (List Deed)
  pub waits : Option (List ℕ)
  pub polls : ℕ
  pub moments : Option (List ℕ)

abbrev pub scene : Whole → (ℕ → ℕ) → Option (List Deed) → (waits : Option (List ℕ)) → ℕ → (moments : Option (List ℕ)) → Scene
scene client words deeds waits polls moments = record { client = client; words = words; deeds = deeds; waits = waits; polls = polls; moments = moments }

-- What holds of the scenes before and after a call, by what an edge, a clock and words tell.
abbrev pub between : {E C W : Type 0} {R : Type 1} → (E → Option (List Deed)) → (E → Option (List ℕ)) → (E → ℕ) → (C → Option (List ℕ)) → (W → ℕ → ℕ) → (old new : Whole × E × C × W) → (Scene → Scene → R) → R
between deeds waits polls given stream old new P =
    P (scene old.0 (stream old.3) (deeds old.1) (waits old.1) (polls old.1) (given old.2)) (scene new.0 (stream new.3) (deeds new.1) (waits new.1) (polls new.1) (given new.2))

-- the client as it begins a row
abbrev pub client_of : Scene → Client
client_of s = client_with s.words s.client

-- A request was asked, and then turns were made: their rows are the plain client's, the events are those that the edge gave, at the clock's moments,
-- the edge acted on what was put out for each before it was polled again, and was polled once a turn, after it was told how long it may wait.
pub record Asked (request : Request) (old new : Scene) : Type 0 where
  pub asking : Row
  pub turns : List Turn
  pub asks : asking.event.what ≡ Ask request
  pub polled : All IsOfPoll turns
  pub leads : Leads old.client.timeout (client_of old) (rows_of asking turns) (client_of new)
  pub octets : AllAskedInOctets (events_of (rows_of asking turns))
  pub comes : AllInOctets (events_of (rows_of asking turns))
  pub deeds : new.deeds ≡ after_deeds (acts_on asking.outs ++ flat_map deeds_of turns) old.deeds
  pub kept : AreKept old.client.timeout (client_of old) (asking ∷ []) turns
  pub waits : new.waits ≡ after_waits (flat_map (λ turn. turn.kept) turns) old.waits
  pub polls : RoseBy (length turns) old.polls new.polls
  pub moments : AreGivenOn old.moments new.moments (moments_of (rows_of asking turns))

-- a request was asked in a row, and no turn was made
pub record Begun (request : Request) (old new : Scene) (row : Row) : Type 0 where
  pub asked : Asked request old new
  pub asking_is : asked.asking ≡ row
  pub no_turns : asked.turns ≡ []

-- What is answered: the reply, which the last of the rows has and none before it, or none where as many turns as there may be had none.
abbrev pub Ends : (number most : ℕ) → Row → List Turn → Option (Result (List ℕ) Error) → Type 0
Ends number most asking turns (Some reply) = EndsWith number (rows_of asking turns) reply × (length turns ≤ most)
Ends number most asking turns None = (first_reply number (rows_of asking turns) ≡ None) × (length turns ≡ most)

-- A request was asked and answered so, and the rows are the plain client's of their events.
pub record IsAnswered (number most : ℕ) (request : Request) (old new : Scene) (answer : Option (Result (List ℕ) Error)) : Type 0 where
  pub asked : Asked request old new
  pub ends : Ends number most asked.asking asked.turns answer
  pub plain : plain_rows machine old.client.timeout (events_of (rows_of asked.asking asked.turns)) (client_of old) ≡ Some (rows_of asked.asking asked.turns)

-- A number would pass 64 bits: of the request's asking and the events behind it, each of which is what the edge gave in one of its polls, at the moments
-- that the clock gave, the plain client makes no rows.
pub record StopsForNumbers (request : Request) (old new : Scene) : Type 0 where
  pub asking : Event
  pub later : List Event
  pub asks : asking.what ≡ Ask request
  pub stops : plain_rows machine old.client.timeout (asking ∷ later) (client_of old) ≡ None
  pub moments : AreGivenOn old.moments new.moments (map (λ event. event.moment.0) (asking ∷ later))
  pub polled : List (Option What)
  pub of_polls : map (λ event. event.what) later ≡ map happened polled
  pub polls : RoseBy (length polled) old.polls new.polls
  pub told : ArePolledOn old.deeds new.deeds polled
