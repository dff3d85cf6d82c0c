-- Histories of a shared client: which are legal, and what each call leaves of one.
use Rattle.std.specs.Prelude.{◌≡◌, ℕ, zero, suc, ◌<◌, Bool, true, false, ◌==◌, List, [], ◌∷◌, ◌++◌, length, map, All, Option, Some, None}
use mathlib.Core.List.{IsPrefix}
use Rattle.atomic_table.specs.Seated.{TableId}
use Rattle.atomic_table.specs.declared.shared.Seat.{Seat}
use Rattle.joint_history.specs.declared.view.View.{View}
use Rattle.joint_history.specs.Views.{own}
use Rattle.client_request.specs.declared.event.Event.{Event}
use Rattle.client_request.specs.declared.event.Out.{Out}
use Rattle.client_request.specs.declared.event.Row.{Row}
use Rattle.client_settings.specs.Settings.{CacheSettings, RedundantSettings, default_cache, default_redundant}
use Rattle.client_steps.specs.Whole.{Whole, started_with, plain_step, client_with}
use Rattle.resolv_conf.specs.Files.{empty_conf}
use Rattle.resolv_conf.specs.declared.conf.ResolvConf.{ResolvConf}
use Rattle.client_shared.specs.Drawn.{Continues}
use Rattle.client_shared.specs.declared.entry.Entry.{Entry}
use Rattle.client_shared.specs.declared.entry.Item.{Item}
use Rattle.client_shared.specs.declared.entry.Item.TheVariants.{Made, Lost}
use Rattle.client_shared.specs.declared.entry.Receipt.{Receipt}
use Rattle.client_settings.specs.declared.settings.Transports.{Transports}
use Rattle.client_settings.specs.Client.{default_transports}

-- What a shared client is opened with: a configuration, settings, the words that come, and for how many callers.
pub record Opening : Type 0 where
  pub transports : Transports
  pub redundant : RedundantSettings
  pub cache : CacheSettings
  pub conf : ResolvConf
  pub words : ℕ → ℕ
  pub callers : ℕ

abbrev pub no_opening : Opening
no_opening = record { transports = default_transports; redundant = default_redundant; cache = default_cache; conf = empty_conf; words = λ k. 0; callers = 0 }

abbrev pub no_table : TableId
no_table = record { words = 0; slots = 0; views_name = 0; atom = 0; block = 0; offset = 0; slot_names = [] }

-- whose an item is
abbrev pub caller_of : Item → ℕ
caller_of (Made entry) = entry.caller
caller_of (Lost caller) = caller

abbrev pub entry_of : ℕ → Event → List ℕ → List Out → Entry
entry_of caller event words outs = record { caller = caller; event = event; words = words; outs = outs }

abbrev pub row_of : Entry → Row
row_of e = record { event = e.event; outs = e.outs }

-- the history of a journal: nothing stands behind a loss
abbrev pub history : List Entry → Option ℕ → List Item
history entries None = map Made entries
history entries (Some caller) = map Made entries ++ Lost caller ∷ []

-- An entry is the plain client's step on its event, with these words drawn.
pub record StepsTo (s : Whole) (f : ℕ → ℕ) (e : Entry) (t : Whole) (g : ℕ → ℕ) : Type 0 where
  pub row : plain_step f e.event s ≡ Some (row_of e, client_with g t)
  pub drawn : Continues f e.words g
  pub timeout : t.timeout ≡ s.timeout
  pub lives : t.failed ≡ false

-- The items are what the plain client does one after another for so many callers, from s with the words f to t with the words g. Nothing stands behind a loss.
abbrev pub Runs : ℕ → Whole → (ℕ → ℕ) → List Item → Whole → (ℕ → ℕ) → Type 0
Runs n s f [] t g = (s ≡ t) × (f ≡ g)
Runs n s f (Made e ∷ items) t g = (e.caller < n) × (m : Whole) × (h : ℕ → ℕ) × StepsTo s f e m h × Runs n m h items t g
Runs n s f (Lost caller ∷ items) t g = (caller < n) × (items ≡ []) × (s ≡ t) × (f ≡ g)

abbrev pub opened : Opening → Whole
opened o = started_with o.transports o.redundant o.cache o.conf

-- A history is legal where the plain client, started on the opening and given the events and the words, puts these outs out, for callers whose numbers are below their count.
abbrev pub IsLegal : Opening → List Item → Type 0
IsLegal o items = (t : Whole) × (g : ℕ → ℕ) × Runs o.callers (opened o) o.words items t g

-- each item is of a caller whose number is below this count
abbrev pub AreOfCallers : ℕ → List Item → Type 0
AreOfCallers n items = All (λ item. caller_of item < n) items

-- Behind these entries the plain client has no step for an event: a number would pass 64 bits.
pub record HasNoNumber (o : Opening) (before : List Entry) (event : Event) : Type 0 where
  pub client : Whole
  pub words : ℕ → ℕ
  pub runs : Runs o.callers (opened o) o.words (map Made before) client words
  pub stops : plain_step words event client ≡ None

-- the places of a caller's entries among its items
abbrev pub made_in : List (ℕ × Item) → List ℕ
made_in [] = []
made_in ((k, Made e) ∷ items) = k ∷ made_in items
made_in ((k, Lost caller) ∷ items) = made_in items

abbrev pub lost_in : List (ℕ × Item) → Bool
lost_in [] = false
lost_in ((k, Made e) ∷ items) = lost_in items
lost_in ((k, Lost caller) ∷ items) = true

-- the events of a caller's entries among its items
abbrev pub events_in : List (ℕ × Item) → List Event
events_in [] = []
events_in ((k, Made e) ∷ items) = e.event ∷ events_in items
events_in ((k, Lost caller) ∷ items) = events_in items

-- What a pass has seen.
pub record Passed : Type 0 where
  pub number : ℕ
  pub seen : List Item

-- the places of its calls, which rise, and whether a call of it was refused on its way
abbrev pub calls_of : ℕ → List Item → List ℕ
calls_of number items = made_in (own caller_of number items)

abbrev pub calls : Passed → List ℕ
calls p = calls_of p.number p.seen

-- the events of its calls
abbrev pub events_of : Passed → List Event
events_of p = events_in (own caller_of p.number p.seen)

abbrev pub is_lost : Passed → Bool
is_lost p = lost_in (own caller_of p.number p.seen)

-- the seat of a pass
pub record IsPassSeat (table : TableId) (o : Opening) (number : ℕ) (seat : Seat (Unit {0}) (View Item)) : Type 0 where
  pub table_is : seat.table_id ≡ table
  pub empty : seat.me.1 ≡ []
  pub calls : seat.me.0.calls ≡ true
  pub keeps : seat.me.0.keeps ≡ false
  pub number_is : seat.me.0.number ≡ number
  pub below : number < o.callers
  pub legal : IsLegal o seat.me.0.seen

-- where the client stands after a history without a loss; with one, that the history is legal
abbrev pub Stands : {W : Type 0} → Opening → (W → ℕ → ℕ) → Whole → Option W → List Entry → Option ℕ → Type 0
Stands o stream client None entries lost = ⊥
Stands o stream client (Some words) entries None = (client.failed ≡ false) × Runs o.callers (opened o) o.words (map Made entries) client (stream words)
Stands o stream client (Some words) entries (Some caller) = IsLegal o (map Made entries ++ Lost caller ∷ [])

-- what lies under the lock
pub record IsDesk {W : Type 0} (table : TableId) (o : Opening) (stream : W → ℕ → ℕ) (client : Whole) (words : Option W) (entries : List Entry) (lost : Option ℕ) (seat : Seat (Unit {0}) (View Item)) : Type 0 where
  pub table_is : seat.table_id ≡ table
  pub empty : seat.me.1 ≡ []
  pub keeps : seat.me.0.keeps ≡ true
  pub seen : seat.me.0.seen ≡ history entries lost
  pub stands : Stands o stream client words entries lost

-- a seat that keeps this history
pub record IsKeeping (table : TableId) (items : List Item) (seat : Seat (Unit {0}) (View Item)) : Type 0 where
  pub table_is : seat.table_id ≡ table
  pub empty : seat.me.1 ≡ []
  pub keeps : seat.me.0.keeps ≡ true
  pub seen : seat.me.0.seen ≡ items

-- a pass puts an item of its own at the end of a history, which begins with what it had seen and has no more items of its own
pub record Puts (old : Passed) (before : List Item) (item : Item) (new : Passed) : Type 0 where
  pub number : new.number ≡ old.number
  pub begins : IsPrefix old.seen before
  pub seen : new.seen ≡ before ++ item ∷ []
  pub own_items : own caller_of old.number before ≡ own caller_of old.number old.seen

-- a history that ends with a loss
abbrev pub EndsLost : List Item → Type 0
EndsLost items = (before : List Entry) × (caller : ℕ) × (items ≡ history before (Some caller))

-- A call that is Ok: what the pass has seen has no loss, begins with what it had seen, and ends with the entry of this call, which is one more of its own.
pub record IsSubmitted (old new : Passed) (event : Event) (receipt : Receipt) : Type 0 where
  pub number : new.number ≡ old.number
  pub before : List Entry
  pub words : List ℕ
  pub begins : IsPrefix old.seen (map Made before)
  pub seen : new.seen ≡ map Made before ++ Made (entry_of old.number event words receipt.outs) ∷ []
  pub place : receipt.number ≡ length (map Made before)
  pub event_is : receipt.event ≡ event
  pub calls_are : calls new ≡ calls old ++ receipt.number ∷ []
  pub none_between : own caller_of old.number (map Made before) ≡ own caller_of old.number old.seen

-- A call that was refused on its way: its loss ends the history.
pub record IsRefused (old new : Passed) : Type 0 where
  pub number : new.number ≡ old.number
  pub before : List Entry
  pub begins : IsPrefix old.seen (map Made before)
  pub seen : new.seen ≡ history before (Some old.number)
  pub calls_are : calls new ≡ calls old
  pub lost_is : is_lost new ≡ true
  pub none_between : own caller_of old.number (map Made before) ≡ own caller_of old.number old.seen

-- A call for whose event there is no number: its loss stands where the plain client has no step.
pub record IsStopped (o : Opening) (new : Passed) (event : Event) : Type 0 where
  pub before : List Entry
  pub seen : new.seen ≡ history before (Some new.number)
  pub stops : HasNoNumber o before event

-- A call behind the loss of an earlier one.
pub record IsBehind (old new : Passed) : Type 0 where
  pub number : new.number ≡ old.number
  pub begins : IsPrefix old.seen new.seen
  pub ends : EndsLost new.seen
  pub calls_are : calls new ≡ calls old
  pub lost_is : is_lost new ≡ is_lost old
  pub none_between : own caller_of old.number new.seen ≡ own caller_of old.number old.seen

-- A pass whose items are all in a history: it begins with what the pass has seen, and its items there are those that it has seen.
pub record IsSettled (items : List Item) (p : Passed) : Type 0 where
  pub begins : IsPrefix p.seen items
  pub own_items : own caller_of p.number items ≡ own caller_of p.number p.seen

-- whether the loss is of this caller
abbrev pub is_of : ℕ → Option ℕ → Bool
is_of n None = false
is_of n (Some caller) = caller == n

-- A pass at the end: the journal begins with what it has seen, its entries there stand at its calls and nowhere else, and the loss is of its caller exactly where it is lost.
pub record IsClosed (entries : List Entry) (lost : Option ℕ) (p : Passed) : Type 0 where
  pub settled : IsSettled (history entries lost) p
  pub calls_are : calls_of p.number (history entries lost) ≡ calls p
  pub lost_is : is_lost p ≡ is_of p.number lost

abbrev pub opening_with : Transports → RedundantSettings → CacheSettings → ResolvConf → (ℕ → ℕ) → ℕ → Opening
opening_with transports redundant cache conf words callers = record { transports = transports; redundant = redundant; cache = cache; conf = conf; words = words; callers = callers }

-- the same with the default settings of transports
abbrev pub opening_of : RedundantSettings → CacheSettings → ResolvConf → (ℕ → ℕ) → ℕ → Opening
opening_of = opening_with default_transports

-- What is known of a shared client beside its type: for how many callers it was made.
pub record Shared : Type 0 where
  pub callers : ℕ

-- the passes of so many callers, none of which has seen anything
abbrev pub newcomer : ℕ → Passed
newcomer n = record { number = n; seen = [] }

abbrev pub numbered : ℕ → List Passed
numbered zero = []
numbered (suc n) = numbered n ++ newcomer n ∷ []

-- the seat that keeps a history without items, and has made so many callers
pub record IsFresh (table : TableId) (made : ℕ) (seat : Seat (Unit {0}) (View Item)) : Type 0 where
  pub table_is : seat.table_id ≡ table
  pub empty : seat.me.1 ≡ []
  pub keeps : seat.me.0.keeps ≡ true
  pub seen : seat.me.0.seen ≡ []
  pub made_is : seat.me.0.made ≡ made
