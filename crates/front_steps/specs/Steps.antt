-- What a step of a forwarder is, over any client within.
use Rattle.std.specs.Prelude.{◌≡◌, ℕ, List, [], ◌∷◌, ◌++◌, Bool, true, false, ◌||◌, Option, Some, None}
use Rattle.client_request.specs.Request.{Request}
use Rattle.client_request.specs.declared.event.Event.{Event}
use Rattle.client_request.specs.declared.event.Moment.{Moment}
use Rattle.client_request.specs.declared.event.Row.{Row}
use Rattle.client_request.specs.declared.event.What.TheVariants.{Ask, Tick}
use Rattle.front_queries.specs.Query.{key_of}
use Rattle.front_queries.specs.Requests.{request_of}
use Rattle.front_peers.specs.Items.{Streams, closes, no_streams, takes}
use Rattle.front_peers.specs.declared.event.FrontEvent.{FrontEvent}
use Rattle.front_peers.specs.declared.event.FrontOut.{FrontOut}
use Rattle.front_peers.specs.declared.event.FrontOut.TheVariants.{Answer, Drop}
use Rattle.front_peers.specs.declared.items.Asker.{Asker}
use Rattle.front_peers.specs.declared.items.Item.{Item}
use Rattle.front_peers.specs.declared.items.Item.TheVariants.{Asks, Refuses, Drops, Happens}
use Rattle.front_steps.specs.Waiting.{Waits}
use Rattle.front_steps.specs.Waits.{none_waits, same_asked, has_room, may_join, asks_anew, joins_if, puts_all, turned}
use Rattle.front_steps.specs.declared.putting.Desk.{Desk}

-- A forwarder between two events, over a client within.
pub record Forwarding (C : Type 0) : Type 0 where
  pub within : C
  pub desk : Desk
  pub failed : Bool

-- a forwarder that took nothing in
abbrev pub beginning : {C : Type 0} → C → Forwarding C
beginning within = record { within = within; desk = record { waits = none_waits; streams = no_streams }; failed = false }

-- While an event is taken in: the client within, the words that come, what waits, and what was put out.
pub record Scene (C : Type 0) : Type 0 where
  pub within : C
  pub words : ℕ → ℕ
  pub desk : Desk
  pub outs : List FrontOut

abbrev pub scene : {C : Type 0} → C → (ℕ → ℕ) → Desk → List FrontOut → Scene C
scene within words desk outs = record { within = within; words = words; desk = desk; outs = outs }

abbrev pub with_waits : Waits → Desk → Desk
with_waits waits d = record d { waits = waits }

abbrev pub with_streams : Streams → Desk → Desk
with_streams streams d = record d { streams = streams }

-- what a client within makes of an event: a row, and the client and the words that are left
abbrev pub Steps : Type 0 → Type 1
Steps C = C → (ℕ → ℕ) → Event → Row → C → (ℕ → ℕ) → Type 0

-- whether a client within serves a request at a moment from what it keeps
abbrev pub Serves : Type 0 → Type 0
Serves C = C → Moment → Request → Bool

-- some rows were made
abbrev pub is_some_row : List Row → Bool
is_some_row [] = false
is_some_row (row ∷ rows) = true

-- Something was done by which some rows were made, or none.
pub record DidSo (done : List Row → Type 0) (is_some : Bool) : Type 0 where
  pub rows : List Row
  pub did : done rows
  pub is_some_is : is_some ≡ is_some_row rows

-- Something was done by which some rows were made, or none, whatever they are.
pub record DidSome (done : List Row → Type 0) : Type 0 where
  pub rows : List Row
  pub did : done rows

-- This was put out and left, and no row was made.
abbrev pub Leaves : {C : Type 0} → List FrontOut × Desk → (old new : Scene C) → List Row → Type 0
Leaves done old new rows = (new ≡ record old { desk = done.1; outs = old.outs ++ done.0 }) × (rows ≡ [])

module _ {C : Type 0} (steps : Steps C) where
  -- Rows that the client within makes, one behind another.
  pub data Runs (first : C) (words : ℕ → ℕ) : (rows : List Row) → (last : C) → (left : ℕ → ℕ) → Type 0 where
    rests : Runs first words [] first words
    steps_on : (rows all : List Row) (row : Row) (a b : C) (f g : ℕ → ℕ)
        → Runs first words rows a f → steps a f row.event row b g → all ≡ rows ++ row ∷ [] → Runs first words all b g

  -- Something happened to the client within, where these queries wait: a row came of it, and was put out.
  pub record DidRow (event : Event) (desk : Desk) (within : C) (words : ℕ → ℕ) (outs : List FrontOut) (new : Scene C) (rows : List Row) : Type 0 where
    pub row : Row
    pub rows_are : rows ≡ row ∷ []
    pub event_is : row.event ≡ event
    pub stepped : steps within words event row new.within new.words
    pub outs_are : new.outs ≡ outs ++ (puts_all row.outs desk).0
    pub desk_is : new.desk ≡ (puts_all row.outs desk).1

  abbrev pub Happened : Event → (desk : Desk) → (old new : Scene C) → List Row → Type 0
  Happened event desk old new rows = DidRow event desk old.within old.words old.outs new rows

  -- a query is asked
  abbrev pub DidAsk : Moment → Asker → (old new : Scene C) → List Row → Type 0
  DidAsk moment asker old new rows =
      Happened (record { moment = moment; what = Ask (request_of asker.query) }) (with_waits (asks_anew asker old.desk.waits) old.desk) old new rows

  -- Where no row came of an event's things, time goes on for the client within.
  abbrev pub DidTick : (is_some : Bool) → Moment → (old new : Scene C) → List Row → Type 0
  DidTick true moment old new rows = Leaves ([], old.desk) old new rows
  DidTick false moment old new rows = Happened (record { moment = moment; what = Tick }) old.desk old new rows

  -- a query is asked, or turned away
  abbrev pub DidAskIf : (taken : Bool) → Moment → Asker → (old new : Scene C) → List Row → Type 0
  DidAskIf true moment asker old new rows = DidAsk moment asker old new rows
  DidAskIf false moment asker old new rows = Leaves (turned asker, old.desk) old new rows

module _ {C : Type 0} (steps : Steps C) (serves : Serves C) where
  -- A query that asks the same as one that waits, for the reply to this number, waits for that too, if it may. Another one is asked if there is room, or if it is served at once.
  abbrev pub DidQuery : (same : Option ℕ) → Moment → Asker → (old new : Scene C) → List Row → Type 0
  DidQuery (Some number) moment asker old new rows = Leaves (joins_if (may_join number asker.by_stream old.desk.waits) number asker old.desk) old new rows
  DidQuery None moment asker old new rows =
      DidAskIf steps (has_room old.desk.waits || serves old.within moment (request_of asker.query)) moment asker old new rows

  -- one thing was done, and these rows came of it
  abbrev pub DidItem : Moment → Item → (old new : Scene C) → List Row → Type 0
  DidItem moment (Asks asker) old new rows = DidQuery (same_asked (key_of asker.query) old.desk.waits) moment asker old new rows
  DidItem moment (Happens what) old new rows = Happened steps (record { moment = moment; what = what }) old.desk old new rows
  DidItem moment (Refuses peer octets) old new rows = Leaves (Answer peer octets ∷ [], old.desk) old new rows
  DidItem moment (Drops peer) old new rows = Leaves (Drop peer ∷ [], with_streams (closes peer old.desk.streams) old.desk) old new rows

  -- Of some things those before `left` were done, one behind another, and these rows came of them.
  pub data Doing (moment : Moment) (items : List Item) (old : Scene C) : (left : List Item) → (new : Scene C) → (rows : List Row) → Type 0 where
    begins : Doing moment items old items old []
    goes_on : (item : Item) (left : List Item) (middle new : Scene C) (rows now : List Row)
        → Doing moment items old (item ∷ left) middle rows → DidItem moment item middle new now → Doing moment items old left new (rows ++ now)

  -- An event was taken in: what it comes to was done in order, and then time goes on where no row came of it. The rows are the client's, one behind another.
  pub record TookIn (event : FrontEvent) (within : C) (words : ℕ → ℕ) (desk : Desk) (new : Scene C) : Type 0 where
    pub rows : List Row
    pub middle : Scene C
    pub doing :
        Doing event.moment (takes event desk.streams).0 (scene within words (with_streams (takes event desk.streams).1 desk) []) [] middle rows
    pub now : List Row
    pub ticked : DidTick steps (is_some_row rows) event.moment middle new now
    pub runs : Runs steps within words (rows ++ now) new.within new.words

  -- a forwarder took an event in, with these words, and put this out
  abbrev pub Stepped : FrontEvent → (old : Forwarding C) → (words : ℕ → ℕ) → (new : Forwarding C) → (left : ℕ → ℕ) → (outs : List FrontOut) → Type 0
  Stepped event old words new left outs = TookIn event old.within words old.desk (scene new.within left new.desk outs)
