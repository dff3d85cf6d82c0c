-- What is missed, as it is asked of the rows of a trace.
use Rattle.std.proofs.Common.{◌≡◌, List, Option, refl, subst}
use Rattle.std.specs.Prelude.{ℕ}
use Rattle.client_request.specs.declared.event.Row.{Row}
use Rattle.dns_script.specs.declared.script.Script.{Script}
use Rattle.right_trace.specs.Trace.{Conf}
use Rattle.trace_hits.specs.{Hits.TellsMissedHit, Stale.TellsMissedStale}
use Rattle.trace_judge.specs.script.Judged.{conf_of, settings_of}
use Rattle.trace_audit_run.specs.declared.missed.Missed.{Missed}
use Rattle.trace_audit_run.specs.Missed.{TellsMissed}

pub missed_told : (script : Script) (rows qs : List Row) (hit stale : Option ℕ) (c : Conf) → c ≡ conf_of script.conf script.transports → qs ≡ rows → TellsMissedHit script.cache qs hit → TellsMissedStale c script.cache qs stale → TellsMissed script rows (record { hit = hit; stale = stale })
missed_told script rows qs hit stale c is same h s right = record {
  hit = subst (λ rows. TellsMissedHit script.cache rows hit) same h (conf_of script.conf script.transports) (settings_of script.redundant script.cache) refl right;
  stale = subst (λ c. TellsMissedStale c script.cache rows stale) is (subst (λ rows. TellsMissedStale c script.cache rows stale) same s) (settings_of script.redundant script.cache) refl right;
}
