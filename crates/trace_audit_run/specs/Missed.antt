-- What the cache of a right trace misses, by its script.
use Rattle.std.specs.Prelude.{List, [], None}
use Rattle.client_request.specs.declared.event.Row.{Row}
use Rattle.right_trace.specs.Right.{Right}
use Rattle.dns_script.specs.declared.script.Script.{Script}
use Rattle.trace_hits.specs.{Hits.IsMissedHit, Stale.IsMissedStale}
use Rattle.trace_judge.specs.script.Judged.{conf_of, settings_of}
use Rattle.trace_audit_run.specs.declared.missed.Missed.{Missed}

abbrev pub nothing : Missed
nothing = record { hit = None; stale = None }

-- the first row that misses a hit, and the first whose request is not served by what had expired
pub record IsMissed (script : Script) (rows : List Row) (m : Missed) : Type 0 where
  pub hit : IsMissedHit m.hit script.cache (conf_of script.conf script.transports) (settings_of script.redundant script.cache) [] rows
  pub stale : IsMissedStale m.stale script.cache (conf_of script.conf script.transports) (settings_of script.redundant script.cache) [] rows

-- the answer, of right rows
abbrev pub TellsMissed : Script → List Row → Missed → Type 0
TellsMissed script rows m = Right (conf_of script.conf script.transports) (settings_of script.redundant script.cache) rows → IsMissed script rows m
