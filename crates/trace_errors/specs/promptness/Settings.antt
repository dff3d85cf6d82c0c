-- The settings of which a trace is judged.
use Rattle.std.specs.Prelude.{Bool, false, Option, Some, None}
use Rattle.client_settings.specs.Settings.{CacheSettings}
use Rattle.right_trace.specs.{Messages.Octets, Requests.Asking, Settings.Settings, Validity.is_final}

abbrev pub settings_of : CacheSettings → (defers_errors defers_refused defers_servfail : Bool) → Settings
settings_of c errors refused servfail = record {
  defers_errors = errors;
  defers_refused = refused;
  defers_servfail = servfail;
  max_validity = c.max_validity;
  transport_failure_duration = c.transport_failure_duration;
  misc_error_duration = c.misc_error_duration;
  max_nxdomain_validity = c.max_nxdomain_validity;
  max_nodata_validity = c.max_nodata_validity;
  max_delegation_validity = c.max_delegation_validity;
  cache_truncated = c.cache_truncated;
  stale_for = c.stale_for;
}

-- a message ends the request that was asked so
abbrev pub is_final_for : Settings → Octets → Option Asking → Bool
is_final_for s m None = false
is_final_for s m (Some a) = is_final s a.request m
