-- A configuration, as a judge of traces has it.
use Rattle.std.specs.Prelude.{ℕ, List, map}
use Rattle.client_settings.specs.declared.settings.Transports.{Transports}
use Rattle.right_settings.specs.Given.{told}
use Rattle.right_trace.specs.Trace.{Conf, Use, ByDatagrams, ByStreams}
use Rattle.trace_points.specs.declared.questions.configured.ServerUse.{ServerUse}
use Rattle.trace_points.specs.declared.questions.configured.ServerUse.TheVariants as uses

abbrev pub use_of : ServerUse → Use
use_of uses.Datagrams = ByDatagrams
use_of uses.Streams = ByStreams

abbrev pub conf_of : (servers : List ServerUse) → (timeout : ℕ) → Transports → Conf
conf_of servers timeout t = record { servers = map use_of servers; timeout = timeout; transports = told t }
