-- What a client does in a turn, over an edge and a clock.
use Rattle.std.specs.Prelude.{◌≡◌, ◌⊎◌, ℕ, ◌+◌, List, [], ◌∷◌, ◌++◌, map, Option, None, Some, option_map}
use Rattle.dns_values.specs.Source.{last_count}
use Rattle.client_request.specs.Words.{IsGivenOn}
use Rattle.client_request.specs.declared.event.Event.{Event}
use Rattle.client_request.specs.declared.event.Out.{Out}
use Rattle.client_request.specs.declared.event.Row.{Row}
use Rattle.client_request.specs.declared.event.What.{What}
use Rattle.client_request.specs.declared.event.What.TheVariants.{Ask, Tick}
use Rattle.right_trace.specs.InOctets.{IsInOctets}
use Rattle.client_steps.specs.Client.{plain_rows}
use Rattle.client_steps.specs.Whole.{Client, Whole, machine, plain_step}
use Rattle.client_core.specs.declared.edge.Deed.{Deed}
use Rattle.client_core.specs.declared.edge.Deed.TheVariants.{Acted, Learned, Polled}
use Rattle.client_core.specs.Waiting.{first_due, time_left}

-- What happens in a turn is what the edge gave. Where it gave nothing, or a request, only time goes on.
abbrev pub happened : Option What → What
happened None = Tick
happened (Some (Ask request)) = Tick
happened (Some what) = what

-- an edge acts on outs, in order
abbrev pub acts_on : List Out → List Deed
acts_on outs = map (λ out. Acted out) outs

-- a turn: what the edge has kept of the wait that it was told, what it gave, and the row that came of it
pub record Turn : Type 0 where
  pub kept : List ℕ
  pub polled : Option What
  pub row : Row

-- the row is of what the edge gave
abbrev pub IsOfPoll : Turn → Type 0
IsOfPoll turn = turn.row.event.what ≡ happened turn.polled

-- In a turn the edge is polled, and then it acts on what was put out.
abbrev pub deeds_of : Turn → List Deed
deeds_of turn = Polled turn.polled ∷ acts_on turn.row.outs

-- what was done with an edge after these deeds too, where it tells it
abbrev pub after_deeds : List Deed → Option (List Deed) → Option (List Deed)
after_deeds deeds told = option_map (λ before. before ++ deeds) told

-- what an edge tells of its waits after these too
abbrev pub after_waits : List ℕ → Option (List ℕ) → Option (List ℕ)
after_waits waits told = option_map (λ before. before ++ waits) told

-- A row is that of a turn: there is something that the edge gave, so that the row is of it, what came is octets, and these are the deeds of both.
pub record IsTurn (row : Row) (old new : Option (List Deed)) : Type 0 where
  pub polled : Option What
  pub octets : IsInOctets row.event.what
  pub of_poll : row.event.what ≡ happened polled
  pub deeds : new ≡ after_deeds (Polled polled ∷ acts_on row.outs) old

-- a count of polls rose by so many, or stands at its last value
abbrev pub RoseBy : ℕ → (old new : ℕ) → Type 0
RoseBy count old new = (new ≡ old + count) ⊎ (new ≡ last_count)

-- Where a clock tells the moments that it gave, these are the last of them.
abbrev pub AreGivenOn : (old new : Option (List ℕ)) → List ℕ → Type 0
AreGivenOn old None moments = Unit {0}
AreGivenOn None (Some new) moments = ⊥
AreGivenOn (Some old) (Some new) moments = new ≡ old ++ moments

-- what an edge gave in the polls among these deeds, in order
unfoldable pub polled_in : List Deed → List (Option What)
polled_in [] = []
polled_in (Learned server ∷ deeds) = polled_in deeds
polled_in (Acted out ∷ deeds) = polled_in deeds
polled_in (Polled what ∷ deeds) = what ∷ polled_in deeds

-- Where an edge tells what was done with it, its polls since then gave these.
abbrev pub ArePolledOn : (old new : Option (List Deed)) → List (Option What) → Type 0
ArePolledOn old None polled = Unit {0}
ArePolledOn None (Some new) polled = ⊥
ArePolledOn (Some old) (Some new) polled = polled_in new ≡ polled_in old ++ polled

abbrev pub events_of : List Row → List Event
events_of rows = map (λ row. row.event) rows

abbrev pub moments_of : List Row → List ℕ
moments_of rows = map (λ row. row.event.moment.0) rows

-- The plain client makes these rows of their events, and then goes on from what it is after them, whatever comes later.
abbrev pub Leads : (timeout : ℕ) → Client → List Row → Client → Type 0
Leads timeout before rows after =
    (later : List Event) → plain_rows machine timeout (events_of rows ++ later) before ≡ option_map (λ more. rows ++ more) (plain_rows machine timeout later after)

-- After these rows an edge was told how long it may wait, which is until the next due moment of the client to which they lead, and has kept that or nothing.
pub record IsKept (timeout : ℕ) (first : Client) (rows : List Row) (kept : List ℕ) : Type 0 where
  pub client : Client
  pub leads : Leads timeout first rows client
  pub is : (kept ≡ time_left client.view.now (first_due client.view.timers.set) ∷ []) ⊎ (kept ≡ [])

-- The edge was told so in each turn, whose row comes behind those before.
abbrev pub AreKept : (timeout : ℕ) → (first : Client) → (before : List Row) → List Turn → Type 0
AreKept timeout first before [] = Unit {0}
AreKept timeout first before (turn ∷ turns) = IsKept timeout first before turn.kept × AreKept timeout first (before ++ turn.row ∷ []) turns

-- A number would pass 64 bits at what an edge gave in a poll, the last that was done with it, at the moment that a clock gave.
pub record StopsAt (words : ℕ → ℕ) (client : Whole) (deeds after : Option (List Deed)) (old new : Option (List ℕ)) : Type 0 where
  pub polled : Option What
  pub event : Event
  pub of_poll : event.what ≡ happened polled
  pub stops : plain_step words event client ≡ None
  pub deeds_are : after ≡ after_deeds (Polled polled ∷ []) deeds
  pub moment : IsGivenOn old new event.moment.0
