-- What holds of the client within a forwarder, whatever comes of DNS clients and of servers.
use Rattle.std.specs.Prelude.{◌≡◌, ℕ, ◌≤◌, List, [], Some}
use Rattle.client_cache.specs.Plain.{room_of}
use Rattle.client_loop.specs.Turns.{events_of}
use Rattle.client_request.specs.Composed.{composed}
use Rattle.client_request.specs.declared.event.Row.{Row}
use Rattle.client_settings.specs.Settings.{CacheSettings, RedundantSettings, seconds}
use Rattle.client_settings.specs.declared.settings.Transports.{Transports}
use Rattle.client_steps.specs.Headline.{conf_with, settings_of}
use Rattle.client_steps.specs.Whole.{Whole, plain_trace_with, started_with}
use Rattle.front_core.specs.Forwarded.{Forwards}
use Rattle.front_peers.specs.declared.event.FrontRow.{FrontRow}
use Rattle.front_steps.specs.Steps.{Forwarding, beginning}
use Rattle.proof_client.specs.Above.{AreWords}
use Rattle.resolv_conf.specs.declared.conf.ResolvConf.{ResolvConf}
use Rattle.right_trace.specs.Hit.{AllHit}
use Rattle.right_trace.specs.Right.{Right}
use Rattle.right_trace.specs.StaleServed.{AllServeStale}
use Rattle.right_trace.specs.Timely.{Timely}
use Rattle.right_trace.specs.Trace as trace
use Rattle.right_settings.specs.Given.{AreGiven}

-- These are the plain trace of their events, with these settings of transports: right and timely, what is kept is given, and what has expired is served,
-- by those of the headline that a client is so given.
pub record IsRightTrace (given : Transports) (redundant : RedundantSettings) (cache : CacheSettings) (conf : ResolvConf) (words : ℕ → ℕ) (rows : List Row) : Type 0 where
  pub plain : plain_trace_with given redundant cache conf words (events_of rows) ≡ Some rows
  pub right : (t : trace.Transports) → AreGiven (conf_with t conf) given → Right (conf_with t conf) (settings_of redundant cache) rows
  pub timely : (t : trace.Transports) → AreGiven (conf_with t conf) given → Timely (conf_with t conf) rows
  pub hits : (t : trace.Transports) → AreGiven (conf_with t conf) given → AllHit (conf_with t conf) (settings_of redundant cache) composed (room_of cache) [] rows
  pub stale : (t : trace.Transports) → AreGiven (conf_with t conf) given → AllServeStale (conf_with t conf) (settings_of redundant cache) (room_of cache) [] rows

-- The rows that the client within a forwarder makes, from its beginning on, are such a trace.
abbrev pub EveryForwardedTraceIsRight : Type 0
EveryForwardedTraceIsRight = (given : Transports) (redundant : RedundantSettings) (cache : CacheSettings) (conf : ResolvConf) (words : ℕ → ℕ) (rows : List FrontRow) (made : List Row) (last : Forwarding Whole) (left : ℕ → ℕ)
    → Forwards (beginning (started_with given redundant cache conf)) words rows made last left → cache.max_validity ≤ seconds 6048000 → AreWords words
    → IsRightTrace given redundant cache conf words made
