-- What a replay makes of a list of events.
use Rattle.std.specs.Prelude.{◌≡◌, ℕ, List, [], map, Some}
use Rattle.client_cache.specs.Plain.{room_of}
use Rattle.client_request.specs.Composed.{composed}
use Rattle.client_request.specs.declared.event.Event.{Event}
use Rattle.client_request.specs.declared.event.Row.{Row}
use Rattle.client_settings.specs.Settings.{CacheSettings, RedundantSettings}
use Rattle.client_settings.specs.declared.settings.Transports.{Transports}
use Rattle.client_steps.specs.Headline.{conf_of, conf_with, settings_of}
use Rattle.client_steps.specs.Whole.{plain_trace, plain_trace_with}
use Rattle.proof_cutting.specs.Cuts.{MayBeCut, MayBeCutWith}
use Rattle.right_settings.specs.Given.{AreGiven}
use Rattle.right_trace.specs.Trace as trace
use Rattle.resolv_conf.specs.declared.conf.ResolvConf.{ResolvConf}
use Rattle.right_trace.specs.Hit.{AllHit}
use Rattle.right_trace.specs.Right.{Right}
use Rattle.right_trace.specs.StaleServed.{AllServeStale}
use Rattle.right_trace.specs.Timely.{Timely}

-- These rows are the plain client's for these events, one for each; they are right and timely, what is kept is given, what has expired is served
-- where servers fail, and octets of a stream that come in several events do what they do in one.
pub record IsReplay (redundant : RedundantSettings) (cache : CacheSettings) (conf : ResolvConf) (words : ℕ → ℕ) (events : List Event) (rows : List Row) : Type 0 where
  pub plain : plain_trace redundant cache conf words events ≡ Some rows
  pub each : map (λ row. row.event) rows ≡ events
  pub right : Right (conf_of conf) (settings_of redundant cache) rows
  pub timely : Timely (conf_of conf) rows
  pub hits : AllHit (conf_of conf) (settings_of redundant cache) composed (room_of cache) [] rows
  pub stale : AllServeStale (conf_of conf) (settings_of redundant cache) (room_of cache) [] rows
  pub cut : MayBeCut redundant cache conf words events rows

-- The same with any settings of transports: the trace is right and timely, and hits and serves what has expired, by those of the headline that a
-- client is so given.
pub record IsReplayWith (given : Transports) (redundant : RedundantSettings) (cache : CacheSettings) (conf : ResolvConf) (words : ℕ → ℕ) (events : List Event) (rows : List Row) : Type 0 where
  pub plain : plain_trace_with given redundant cache conf words events ≡ Some rows
  pub each : map (λ row. row.event) rows ≡ events
  pub right : (t : trace.Transports) → AreGiven (conf_with t conf) given → Right (conf_with t conf) (settings_of redundant cache) rows
  pub timely : (t : trace.Transports) → AreGiven (conf_with t conf) given → Timely (conf_with t conf) rows
  pub hits : (t : trace.Transports) → AreGiven (conf_with t conf) given → AllHit (conf_with t conf) (settings_of redundant cache) composed (room_of cache) [] rows
  pub stale : (t : trace.Transports) → AreGiven (conf_with t conf) given → AllServeStale (conf_with t conf) (settings_of redundant cache) (room_of cache) [] rows
  pub cut : (t : trace.Transports) → AreGiven (conf_with t conf) given → MayBeCutWith given redundant cache conf words events rows
