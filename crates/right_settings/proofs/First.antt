-- The defaults are the first settings.
use Rattle.std.proofs.Common.{refl}
use Rattle.client_settings.specs.Client.{default_transports}
use Rattle.right_settings.specs.Given.{AreGiven}
use Rattle.right_trace.specs.Trace.{Conf, first_transports}
use Rattle.right_trace.specs.Time.{read_timeout, response_timeout, idle_timeout, stream_timeout, max_places, recv_size}

pub first_given : (c : Conf) → AreGiven (record c { transports = first_transports }) default_transports
unfolding read_timeout response_timeout idle_timeout stream_timeout max_places recv_size
first_given c = (refl, refl)
