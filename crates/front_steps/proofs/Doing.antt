-- The rows of the client within that come of an event.
use Rattle.std.proofs.Common.{◌≡◌, Bool, true, false, ◌||◌, refl, ap, sym, subst, ◌∙◌, ℕ, List, [], ◌∷◌, ◌++◌, Option, Some, None}
use Rattle.std.specs.Prelude.{OnOk, Result, Ok, Err}
use Rattle.client_request.specs.declared.event.Event.{Event}
use Rattle.client_request.specs.declared.event.Moment.{Moment}
use Rattle.client_request.specs.declared.event.Row.{Row}
use Rattle.client_request.specs.declared.event.What.TheVariants.{Ask}
use Rattle.client_request.specs.Request.{Request}
use Rattle.front_queries.specs.Query.{key_of}
use Rattle.front_queries.specs.Requests.{request_of}
use Rattle.front_peers.specs.Items.{Streams, takes}
use Rattle.front_peers.specs.declared.event.FrontEvent.{FrontEvent}
use Rattle.front_peers.specs.declared.event.FrontOut.{FrontOut}
use Rattle.front_peers.specs.declared.items.Asker.{Asker}
use Rattle.front_peers.specs.declared.items.Item.{Item}
use Rattle.front_peers.specs.declared.items.Item.TheVariants.{Asks, Refuses, Drops, Happens}
use Rattle.front_steps.specs.Steps.{Steps, Serves, Scene, Runs, rests, steps_on, DidAsk, DidAskIf, DidItem, DidQuery, DidRow, DidSo, DidSome, DidTick, Doing, begins, goes_on, Leaves, TookIn, is_some_row, scene, with_streams, with_waits}
use Rattle.front_steps.specs.Waits.{asks_anew, has_room, same_asked}
use Rattle.front_steps.specs.declared.putting.Desk.{Desk}

-- what a call ensures says more
pub on_ok : {T E P Q : Type 0} → (P → Q) → (r : Result T E) → OnOk r P → OnOk r Q
on_ok more (Ok value) p = more p
on_ok more (Err error) p = p

pub append_nil : {A : Type 0} (a : List A) → a ++ [] ≡ a
append_nil [] = refl
append_nil {A} (x ∷ a) = ap (λ (xs : List A). x ∷ xs) (append_nil a)

-- a query was asked, for the request that was made of it
pub did_ask : {C : Type 0} (steps : Steps C) (moment : Moment) (asker : Asker) (within : C) (words : ℕ → ℕ) (desk waits : Desk) (outs : List FrontOut) (new : Scene C) (request : Request)
    → request ≡ request_of asker.query → waits ≡ with_waits (asks_anew asker desk.waits) desk
    → DidSo (DidRow steps (record { moment = moment; what = Ask request }) waits within words outs new) true
    → DidSo (DidAsk steps moment asker (scene within words desk outs) new) true
did_ask steps moment asker within words desk waits outs new request request_is waits_is did =
    subst (λ (r : Request). DidSo (DidRow steps (record { moment = moment; what = Ask r }) (with_waits (asks_anew asker desk.waits) desk) within words outs new) true) request_is
    (subst (λ (d : Desk). DidSo (DidRow steps (record { moment = moment; what = Ask request }) d within words outs new) true) waits_is did)

module _ {C : Type 0} (steps : Steps C) (first : C) (words : ℕ → ℕ) where
  -- a row comes behind others
  runs_row : (before rows : List Row) (event : Event) (desk : Desk) (within : C) (f : ℕ → ℕ) (outs : List FrontOut) (new : Scene C)
      → Runs steps first words before within f → DidRow steps event desk within f outs new rows → Runs steps first words (before ++ rows) new.within new.words
  runs_row before rows event desk within f outs new r did =
      steps_on before (before ++ rows) did.row within new.within f new.words r
      (subst (λ (e : Event). steps within f e did.row new.within new.words) (sym did.event_is) did.stepped)
      (ap (λ (rs : List Row). before ++ rs) did.rows_are)

  -- none does
  runs_still : (before rows : List Row) (done : List FrontOut × Desk) (old new : Scene C)
      → Runs steps first words before old.within old.words → Leaves done old new rows → Runs steps first words (before ++ rows) new.within new.words
  runs_still before rows done old new r left =
      subst (λ (s : Scene C). Runs steps first words (before ++ rows) s.within s.words) (sym left.0)
      (subst (λ (rs : List Row). Runs steps first words rs old.within old.words) (sym (ap (λ (rs : List Row). before ++ rs) left.1 ∙ append_nil before)) r)

  module _ (serves : Serves C) (moment : Moment) where
    runs_query : (before rows : List Row) (asker : Asker) (old new : Scene C) (same : Option ℕ)
        → Runs steps first words before old.within old.words → DidQuery steps serves same moment asker old new rows
        → Runs steps first words (before ++ rows) new.within new.words
    runs_query before rows asker old new (Some number) r did = runs_still before rows _ old new r did
    runs_query before rows asker old new None r did = by (has_room old.desk.waits || serves old.within moment (request_of asker.query)) did
      where
        by : (taken : Bool) → DidAskIf steps taken moment asker old new rows → Runs steps first words (before ++ rows) new.within new.words
        by true did = runs_row before rows _ _ old.within old.words old.outs new r did
        by false did = runs_still before rows _ old new r did

    -- the rows of one thing come behind others
    runs_item : (before rows : List Row) (item : Item) (old new : Scene C)
        → Runs steps first words before old.within old.words → DidItem steps serves moment item old new rows
        → Runs steps first words (before ++ rows) new.within new.words
    runs_item before rows (Asks asker) old new r did = runs_query before rows asker old new (same_asked (key_of asker.query) old.desk.waits) r did
    runs_item before rows (Happens what) old new r did = runs_row before rows _ _ old.within old.words old.outs new r did
    runs_item before rows (Refuses peer octets) old new r did = runs_still before rows _ old new r did
    runs_item before rows (Drops peer) old new r did = runs_still before rows _ old new r did

    -- the rows of things
    runs_doing : (items : List Item) (old : Scene C) (left : List Item) (new : Scene C) (rows : List Row)
        → Runs steps first words [] old.within old.words → Doing steps serves moment items old left new rows → Runs steps first words rows new.within new.words
    runs_doing items old left new rows r begins = r
    runs_doing items old left new rows r (goes_on item after middle last before now doing did) =
        runs_item before now item middle last (runs_doing items old (item ∷ after) middle before r doing) did

    -- and of time that goes on where there are none
    runs_tick : (before rows : List Row) (old new : Scene C) (is_some : Bool)
        → Runs steps first words before old.within old.words → DidTick steps is_some moment old new rows → Runs steps first words (before ++ rows) new.within new.words
    runs_tick before rows old new true r did = runs_still before rows _ old new r did
    runs_tick before rows old new false r did = runs_row before rows _ _ old.within old.words old.outs new r did

-- some rows were made by one of two
pub some_of_both : (before now : List Row) → is_some_row (before ++ now) ≡ is_some_row before || is_some_row now
some_of_both [] now = refl
some_of_both (row ∷ before) now = refl

-- one thing more is done
pub did_more : {C : Type 0} (steps : Steps C) (serves : Serves C) (moment : Moment) (items left : List Item) (item : Item) (old middle new : Scene C) (was is : Bool)
    → DidSo (Doing steps serves moment items old (item ∷ left) middle) was → DidSo (DidItem steps serves moment item middle new) is
    → DidSo (Doing steps serves moment items old left new) (was || is)
did_more steps serves moment items left item old middle new was is before now = record {
  rows = before.rows ++ now.rows;
  did = goes_on item left middle new before.rows now.rows before.did now.did;
  is_some_is = ap (λ (b : Bool). b || is) before.is_some_is ∙ ap (λ (b : Bool). is_some_row before.rows || b) now.is_some_is ∙ sym (some_of_both before.rows now.rows);
}

-- an event was taken in
pub took_in : {C : Type 0} (steps : Steps C) (serves : Serves C) (event : FrontEvent) (within : C) (words : ℕ → ℕ) (desk : Desk) (items : List Item) (streams : Streams) (outs : List FrontOut)
    (middle new : Scene C) (happened : Bool)
    → items ≡ (takes event desk.streams).0 → streams ≡ (takes event desk.streams).1 → outs ≡ []
    → DidSo (Doing steps serves event.moment items (scene within words (with_streams streams desk) outs) [] middle) happened
    → DidSome (DidTick steps happened event.moment middle new)
    → TookIn steps serves event within words desk new
took_in {C} steps serves event within words desk items streams outs middle new happened items_are streams_are nothing doing tick =
    let done : Doing steps serves event.moment (takes event desk.streams).0 (scene within words (with_streams (takes event desk.streams).1 desk) []) [] middle doing.rows =
    subst (λ (xs : List Item). Doing steps serves event.moment xs (scene within words (with_streams (takes event desk.streams).1 desk) []) [] middle doing.rows) items_are
    (subst (λ (s : Streams). Doing steps serves event.moment items (scene within words (with_streams s desk) []) [] middle doing.rows) streams_are
    (subst (λ (o : List FrontOut). Doing steps serves event.moment items (scene within words (with_streams streams desk) o) [] middle doing.rows) nothing doing.did)) in
    let ticked : DidTick steps (is_some_row doing.rows) event.moment middle new tick.rows = subst (λ (b : Bool). DidTick steps b event.moment middle new tick.rows) doing.is_some_is tick.did in
    record {
      rows = doing.rows;
      middle = middle;
      doing = done;
      now = tick.rows;
      ticked = ticked;
      runs = runs_tick steps within words serves event.moment doing.rows tick.rows middle new (is_some_row doing.rows)
          (runs_doing steps within words serves event.moment _ _ [] middle doing.rows rests done) ticked;
    }
