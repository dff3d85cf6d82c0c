-- The turns of a forwarder whose client within is recorded.
use Rattle.std.specs.Prelude.{◌≡◌, ℕ, List, [], ◌∷◌, ◌++◌, length, Option}
use Rattle.std.specs.List.{All, flat_map}
use Rattle.client_loop.specs.Turns.{AreGivenOn, RoseBy}
use Rattle.client_request.specs.declared.event.Row.{Row}
use Rattle.dns_record.specs.Recording.{Keeps}
use Rattle.front_peers.specs.declared.event.FrontRow.{FrontRow}
use Rattle.front_steps.specs.Steps.{Forwarding, Stepped}
use Rattle.forward_run.specs.Front.{after_deeds}
use Rattle.forward_run.specs.Turns.{IsOfPoll, Turn, World, answers_of, deeds_of, moments_of, rows_of}
use Rattle.forward_run.specs.declared.front.FrontDeed.{FrontDeed}
use Rattle.forward_record.specs.Core.{IsRecordedStep, RecordedClient, serves}

abbrev pub Recorded : Type 0 → Type 0
Recorded K = Forwarding (RecordedClient K)

-- a forwarder makes a row of an event, and these words are left
abbrev pub Makes : {K : Type 0} → (K → Option (List ℕ)) → FrontRow → (old : Recorded K) → (words : ℕ → ℕ) → (new : Recorded K) → (left : ℕ → ℕ) → Type 0
Makes held row old words new left = Stepped (IsRecordedStep held) serves row.event old words new left row.outs

-- A forwarder made these rows one behind another, and the client within those of `trace`.
pub data Forwards {K : Type 0} (held : K → Option (List ℕ)) (first : Recorded K) (words : ℕ → ℕ) : (rows : List FrontRow) → (trace : List Row) → (last : Recorded K) → (left : ℕ → ℕ) → Type 0 where
  begins : Forwards held first words [] [] first words
  goes_on : (rows all : List FrontRow) (row : FrontRow) (before trace : List Row) (a b : Recorded K) (f g : ℕ → ℕ)
      → Forwards held first words rows before a f → (made : Makes held row a f b g) → all ≡ rows ++ row ∷ [] → trace ≡ before ++ (made.rows ++ made.now)
      → Forwards held first words all trace b g

-- A forwarder, the words that come, what its front tells of what was done with it, the front's count of polls, and the moments that its clock tells.
pub record Scene (K : Type 0) : Type 0 where
  pub forwarder : Recorded K
  pub words : ℕ → ℕ
  pub deeds : Option (List FrontDeed)
  pub polls : ℕ
  pub moments : Option (List ℕ)

abbrev pub scene : {K : Type 0} → Recorded K → (ℕ → ℕ) → Option (List FrontDeed) → (polls : ℕ) → (moments : Option (List ℕ)) → Scene K
scene forwarder words deeds polls moments = record { forwarder = forwarder; words = words; deeds = deeds; polls = polls; moments = moments }

-- So many turns were made, which put out so many answers: each row is of what the front gave in its poll, at the moment that the clock gave, the front acted on
-- what was put out before it was polled again, the rows are the forwarder's, and all rows of the client within are recorded.
pub record Turned {K : Type 0} (held : K → Option (List ℕ)) (count answered : ℕ) (old new : Scene K) : Type 0 where
  pub turns : List Turn
  pub trace : List Row
  pub count_is : length turns ≡ count
  pub answered_is : answered ≡ answers_of turns
  pub polled : All IsOfPoll turns
  pub forwards : Forwards held old.forwarder old.words (rows_of turns) trace new.forwarder new.words
  pub keeps : Keeps trace (held old.forwarder.within.sink) old.forwarder.within.recorder old.forwarder.within.client (held new.forwarder.within.sink) new.forwarder.within.recorder new.forwarder.within.client
  pub deeds : new.deeds ≡ after_deeds (flat_map deeds_of turns) old.deeds
  pub polls : RoseBy count old.polls new.polls
  pub moments : AreGivenOn old.moments new.moments (moments_of turns)

-- a forwarder in the world
abbrev pub within : {K : Type 0} → Recorded K → World → Scene K
within forwarder w = scene forwarder w.words w.deeds w.polls w.moments

-- So many turns were made from one forwarder to another.
abbrev pub TurnedBy : {K : Type 0} → (K → Option (List ℕ)) → (count answered : ℕ) → (first last : Recorded K) → (old new : World) → Type 0
TurnedBy held count answered first last old new = Turned held count answered (within first old) (within last new)
