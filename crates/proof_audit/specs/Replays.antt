-- What is said of the traces of replays.
use Rattle.std.specs.Prelude.{◌≡◌, ℕ, List, [], Option, None}
use Rattle.client_request.specs.declared.event.Event.{Event}
use Rattle.client_request.specs.declared.event.Row.{Row}
use Rattle.client_settings.specs.Client.{AreLimited}
use Rattle.client_settings.specs.declared.settings.Transports.{Transports}
use Rattle.client_settings.specs.Settings.{CacheSettings, RedundantSettings}
use Rattle.client_replay.specs.Replayed.{IsReplayWith}
use Rattle.resolv_conf.specs.declared.conf.ResolvConf.{ResolvConf}
use Rattle.trace_judge.specs.clauses.Verdicts.{Verdict, Right, IsVerdict}
use Rattle.trace_judge.specs.script.Judged.{conf_of, settings_of}
use Rattle.trace_hits.specs.timely.Timely.{IsUntimely}
use Rattle.trace_hits.specs.Hits.{IsMissedHit}
use Rattle.trace_hits.specs.Stale.{IsMissedStale}

-- what is said of rows by these events, this configuration and these settings is so
abbrev pub IsSaid : Verdict → Transports → RedundantSettings → CacheSettings → ResolvConf → List Event → List Row → Type 0
IsSaid v t redundant cache conf events rows = IsVerdict v (conf_of conf t) (settings_of redundant cache) [] events rows

-- The rows of a replay are right and timely and miss no hit and no expired answer, and nothing else is said of them.
pub record IsJudgedRight (t : Transports) (redundant : RedundantSettings) (cache : CacheSettings) (conf : ResolvConf) (events : List Event) (rows : List Row) : Type 0 where
  pub right : IsSaid Right t redundant cache conf events rows
  pub alone : (v : Verdict) → IsSaid v t redundant cache conf events rows → v ≡ Right
  pub timely : IsUntimely None (conf_of conf t) [] rows
  pub never_late : (row : Option ℕ) → IsUntimely row (conf_of conf t) [] rows → row ≡ None
  pub hits : IsMissedHit None cache (conf_of conf t) (settings_of redundant cache) [] rows
  pub never_missed : (row : Option ℕ) → IsMissedHit row cache (conf_of conf t) (settings_of redundant cache) [] rows → row ≡ None
  pub stale : IsMissedStale None cache (conf_of conf t) (settings_of redundant cache) [] rows
  pub always_served : (row : Option ℕ) → IsMissedStale row cache (conf_of conf t) (settings_of redundant cache) [] rows → row ≡ None

abbrev pub ReplaysAreRight : Type 0
ReplaysAreRight = (t : Transports) (limited : AreLimited t) (redundant : RedundantSettings) (cache : CacheSettings) (conf : ResolvConf) (words : ℕ → ℕ) (events : List Event) (rows : List Row) → IsReplayWith t redundant cache conf words events rows → IsJudgedRight t redundant cache conf events rows
