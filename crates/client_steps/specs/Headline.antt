-- The configuration and the settings of the plain client, as the headline speaks of them.
use Rattle.std.specs.Prelude.{Bool, true, false, map}
use Rattle.client_settings.specs.Settings.{RedundantSettings, CacheSettings}
use Rattle.client_steps.specs.Whole.{asks_by_streams}
use Rattle.right_trace.specs.Settings.{Settings}
use Rattle.right_trace.specs.Trace.{Conf, Use, ByDatagrams, ByStreams, Transports, first_transports}
use Rattle.resolv_conf.specs.declared.conf.ResolvConf.{ResolvConf}

abbrev pub use_of : (by_streams : Bool) → Use
use_of true = ByStreams
use_of false = ByDatagrams

-- each server by how it is asked, the timeout in microseconds, and the settings of transports
abbrev pub conf_with : Transports → ResolvConf → Conf
conf_with t conf = record { servers = map (λ s. use_of (asks_by_streams conf.options s)) conf.servers; timeout = conf.options.timeout; transports = t }

-- the same with the first settings of transports
abbrev pub conf_of : ResolvConf → Conf
conf_of = conf_with first_transports

-- what is deferred, and how long what may be kept
abbrev pub settings_of : RedundantSettings → CacheSettings → Settings
settings_of redundant cache = record {
  defers_errors = redundant.defer_transport_error;
  defers_refused = redundant.defer_refused;
  defers_servfail = redundant.defer_servfail;
  max_validity = cache.max_validity;
  transport_failure_duration = cache.transport_failure_duration;
  misc_error_duration = cache.misc_error_duration;
  max_nxdomain_validity = cache.max_nxdomain_validity;
  max_nodata_validity = cache.max_nodata_validity;
  max_delegation_validity = cache.max_delegation_validity;
  cache_truncated = cache.cache_truncated;
  stale_for = cache.stale_for;
}
