-- Every trace that the plain client of a configuration makes is a run of the client of small moves, and right.
use Rattle.std.specs.Prelude.{◌≡◌, ℕ, ◌≤◌, Option, Some, List, [], map}
use Rattle.client_request.specs.Composed.{composed}
use Rattle.client_request.specs.declared.event.Event.{Event}
use Rattle.client_request.specs.declared.event.Row.{Row}
use Rattle.client_settings.specs.Settings.{CacheSettings, RedundantSettings, seconds}
use Rattle.right_trace.specs.Timely.{AllAskedInOctets, Timely}
use Rattle.client_cache.specs.Plain.{room_of}
use Rattle.right_trace.specs.Hit.{AllHit}
use Rattle.right_trace.specs.Right.{Right}
use Rattle.right_trace.specs.StaleServed.{AllServeStale}
use Rattle.proof_right.specs.machine.Client.{begun, IsRun}
use Rattle.proof_right.specs.machine.Served.{served}
use Rattle.right_trace.specs.InOctets.{AllInOctets}
use Rattle.proof_client.specs.Above.{AreWords}
use Rattle.client_steps.specs.Headline.{conf_of, conf_with, settings_of}
use Rattle.client_steps.specs.Whole.{plain_trace, plain_trace_with}
use Rattle.client_settings.specs.declared.settings.Transports.{Transports}
use Rattle.right_settings.specs.Given.{AreGiven}
use Rattle.right_trace.specs.Trace as trace
use Rattle.resolv_conf.specs.declared.conf.ResolvConf.{ResolvConf}

-- What is known of settings of a cache, of words and of events that a program hands in: times fit, and all is octets and words.
pub record AreHandedIn (cache : CacheSettings) (words : ℕ → ℕ) (events : List Event) : Type 0 where
  pub limited : cache.max_validity ≤ seconds 6048000
  pub small : AreWords words
  pub asked : AllAskedInOctets events
  pub octets : AllInOctets events

-- Every plain trace is a run of the client of small moves.
abbrev pub EveryPlainTraceRuns : Type 0
EveryPlainTraceRuns = (redundant : RedundantSettings) (cache : CacheSettings) (conf : ResolvConf) (words : ℕ → ℕ) (events : List Event) (rows : List Row) → plain_trace redundant cache conf words events ≡ Some rows → AreHandedIn cache words events
    → IsRun (conf_of conf) (settings_of redundant cache) composed (served (conf_of conf)) (begun (conf_of conf) (settings_of redundant cache) composed (served (conf_of conf))) rows

-- Every plain trace is right and timely, whatever comes and whatever is asked.
abbrev pub EveryPlainTraceIsRight : Type 0
EveryPlainTraceIsRight = (redundant : RedundantSettings) (cache : CacheSettings) (conf : ResolvConf) (words : ℕ → ℕ) (events : List Event) (rows : List Row) → plain_trace redundant cache conf words events ≡ Some rows → AreHandedIn cache words events
    → Right (conf_of conf) (settings_of redundant cache) rows × Timely (conf_of conf) rows

-- In every plain trace an asking with the key of a message that is kept, few enough askings and replies later, is answered from the cache in its own row, and handed to no server.
abbrev pub EveryPlainTraceHits : Type 0
EveryPlainTraceHits = (redundant : RedundantSettings) (cache : CacheSettings) (conf : ResolvConf) (words : ℕ → ℕ) (events : List Event) (rows : List Row) → plain_trace redundant cache conf words events ≡ Some rows → AreHandedIn cache words events
    → AllHit (conf_of conf) (settings_of redundant cache) composed (room_of cache) [] rows

-- In every plain trace a request for which a message that is kept had expired has no error of a server and none of its deadline while that message may serve.
abbrev pub EveryPlainTraceServesStale : Type 0
EveryPlainTraceServesStale = (redundant : RedundantSettings) (cache : CacheSettings) (conf : ResolvConf) (words : ℕ → ℕ) (events : List Event) (rows : List Row) → plain_trace redundant cache conf words events ≡ Some rows → AreHandedIn cache words events
    → AllServeStale (conf_of conf) (settings_of redundant cache) (room_of cache) [] rows

-- A plain trace has a row for each event, in order.
abbrev pub PlainTracesKeepTheirEvents : Type 0
PlainTracesKeepTheirEvents = (redundant : RedundantSettings) (cache : CacheSettings) (conf : ResolvConf) (words : ℕ → ℕ) (events : List Event) (rows : List Row) → plain_trace redundant cache conf words events ≡ Some rows → map (λ row. row.event) rows ≡ events

-- With settings of transports: a client is given these, which are those of the configuration.
module _ (t : trace.Transports) (given : Transports) where
  -- Every plain trace is a run of the client of small moves.
  abbrev pub TracesRun : Type 0
  TracesRun = (redundant : RedundantSettings) (cache : CacheSettings) (conf : ResolvConf) (words : ℕ → ℕ) (events : List Event) (rows : List Row) → AreGiven (conf_with t conf) given → plain_trace_with given redundant cache conf words events ≡ Some rows → AreHandedIn cache words events
      → IsRun (conf_with t conf) (settings_of redundant cache) composed (served (conf_with t conf)) (begun (conf_with t conf) (settings_of redundant cache) composed (served (conf_with t conf))) rows

  -- It is right and timely.
  abbrev pub TracesAreRight : Type 0
  TracesAreRight = (redundant : RedundantSettings) (cache : CacheSettings) (conf : ResolvConf) (words : ℕ → ℕ) (events : List Event) (rows : List Row) → AreGiven (conf_with t conf) given → plain_trace_with given redundant cache conf words events ≡ Some rows → AreHandedIn cache words events
      → Right (conf_with t conf) (settings_of redundant cache) rows × Timely (conf_with t conf) rows

  -- It hits.
  abbrev pub TracesHit : Type 0
  TracesHit = (redundant : RedundantSettings) (cache : CacheSettings) (conf : ResolvConf) (words : ℕ → ℕ) (events : List Event) (rows : List Row) → AreGiven (conf_with t conf) given → plain_trace_with given redundant cache conf words events ≡ Some rows → AreHandedIn cache words events
      → AllHit (conf_with t conf) (settings_of redundant cache) composed (room_of cache) [] rows

  -- It serves what has expired.
  abbrev pub TracesServeStale : Type 0
  TracesServeStale = (redundant : RedundantSettings) (cache : CacheSettings) (conf : ResolvConf) (words : ℕ → ℕ) (events : List Event) (rows : List Row) → AreGiven (conf_with t conf) given → plain_trace_with given redundant cache conf words events ≡ Some rows → AreHandedIn cache words events
      → AllServeStale (conf_with t conf) (settings_of redundant cache) (room_of cache) [] rows
