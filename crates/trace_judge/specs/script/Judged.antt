-- By what a trace is judged: what its script says of servers and settings.
use Rattle.std.specs.Prelude.{Bool, true, false, ◌||◌, map}
use Rattle.client_settings.specs.Settings.{RedundantSettings, CacheSettings}
use Rattle.client_settings.specs.declared.settings.Transports.{Transports}
use Rattle.right_trace.specs.{Settings.Settings, Trace.Conf}
use Rattle.resolv_conf.specs.declared.conf.ResolvConf.{ResolvConf}
use Rattle.resolv_conf.specs.declared.server.{ServerConf.ServerConf, Transport.Transport}
use Rattle.resolv_conf.specs.declared.server.Transport.TheVariants.{UdpTcp, Tcp}
use Rattle.trace_points.specs.declared.questions.configured.ServerUse.{ServerUse}
use Rattle.trace_points.specs.declared.questions.configured.ServerUse.TheVariants as uses
use Rattle.trace_points.specs.questions.Configured as configured
use Rattle.trace_errors.specs.promptness.Settings as settled

abbrev pub is_by_streams : (use_vc : Bool) → Transport → Bool
is_by_streams use_vc UdpTcp = use_vc
is_by_streams use_vc Tcp = true

abbrev pub use_if : (by_streams : Bool) → ServerUse
use_if true = uses.Streams
use_if false = uses.Datagrams

-- a server is asked by streams alone where it, or all, are to be asked so
abbrev pub use_of : (use_vc : Bool) → ServerConf → ServerUse
use_of use_vc server = use_if (is_by_streams use_vc server.transport)

-- each server by how it is asked, the timeout in microseconds, and the settings of transports
abbrev pub conf_of : ResolvConf → Transports → Conf
conf_of conf t = configured.conf_of (map (use_of conf.options.use_vc) conf.servers) conf.options.timeout t

-- what is deferred, and how long what may be kept
abbrev pub settings_of : RedundantSettings → CacheSettings → Settings
settings_of redundant cache = settled.settings_of cache redundant.defer_transport_error redundant.defer_refused redundant.defer_servfail
