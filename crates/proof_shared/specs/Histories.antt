-- What holds of each legal history.
use Rattle.std.specs.Prelude.{◌≡◌, ℕ, Option, List, [], ◌∷◌, ◌++◌, map, Some, None}
use Rattle.client_cache.specs.Plain.{room_of}
use Rattle.client_request.specs.Composed.{composed}
use Rattle.client_request.specs.declared.event.Event.{Event}
use Rattle.client_steps.specs.Headline.{conf_with, settings_of}
use Rattle.client_steps.specs.Whole.{plain_trace_with}
use Rattle.client_shared.specs.declared.entry.Entry.{Entry}
use Rattle.client_shared.specs.History.{Opening, IsLegal, HasNoNumber, history, row_of}
use Rattle.proof_client.specs.Ties.{AreHandedIn}
use Rattle.right_trace.specs.Hit.{AllHit}
use Rattle.right_trace.specs.Right.{Right}
use Rattle.right_trace.specs.StaleServed.{AllServeStale}
use Rattle.right_settings.specs.Given.{AreGiven}
use Rattle.right_trace.specs.Timely.{Timely}
use Rattle.right_trace.specs.Trace.{Transports}

-- the events of entries, in order
abbrev pub events_of : List Entry → List Event
events_of entries = map (λ e. e.event) entries

-- The rows of a legal history are the plain trace of its events, which stops for a number where the client has none; and where these were handed in, they are right and timely, give what is kept, and serve what has expired, by the settings of transports that the client was given.
pub record LegalHistories : Type 0 where
  pub plain : (o : Opening) (entries : List Entry) (lost : Option ℕ) → IsLegal o (history entries lost) → plain_trace_with o.transports o.redundant o.cache o.conf o.words (events_of entries) ≡ Some (map row_of entries)
  pub stops : (o : Opening) (before : List Entry) (event : Event) → HasNoNumber o before event → plain_trace_with o.transports o.redundant o.cache o.conf o.words (events_of before ++ event ∷ []) ≡ None
  pub right : (o : Opening) (entries : List Entry) (lost : Option ℕ) → IsLegal o (history entries lost) → AreHandedIn o.cache o.words (events_of entries) → (t : Transports) → AreGiven (conf_with t o.conf) o.transports → Right (conf_with t o.conf) (settings_of o.redundant o.cache) (map row_of entries)
  pub timely : (o : Opening) (entries : List Entry) (lost : Option ℕ) → IsLegal o (history entries lost) → AreHandedIn o.cache o.words (events_of entries) → (t : Transports) → AreGiven (conf_with t o.conf) o.transports → Timely (conf_with t o.conf) (map row_of entries)
  pub hits : (o : Opening) (entries : List Entry) (lost : Option ℕ) → IsLegal o (history entries lost) → AreHandedIn o.cache o.words (events_of entries) → (t : Transports) → AreGiven (conf_with t o.conf) o.transports
      → AllHit (conf_with t o.conf) (settings_of o.redundant o.cache) composed (room_of o.cache) [] (map row_of entries)
  pub stale : (o : Opening) (entries : List Entry) (lost : Option ℕ) → IsLegal o (history entries lost) → AreHandedIn o.cache o.words (events_of entries) → (t : Transports) → AreGiven (conf_with t o.conf) o.transports
      → AllServeStale (conf_with t o.conf) (settings_of o.redundant o.cache) (room_of o.cache) [] (map row_of entries)
