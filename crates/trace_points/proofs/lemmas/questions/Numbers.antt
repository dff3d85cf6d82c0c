-- The settings of a configuration are those that it was made of.
use Rattle.std.proofs.Common.{◌≡◌, ◌+◌, ℕ, suc, refl, ap, arith}
use Rattle.std.specs.Prelude.{List}
use Rattle.client_settings.specs.Client.{AreLimited}
use Rattle.client_settings.specs.declared.settings.Transports.{Transports}
use Rattle.right_settings.proofs.Told.{settings_given, sized_same}
use Rattle.right_settings.specs.Given.{AreGiven}
use Rattle.right_trace.specs.Time.{idle_timeout, max_places, max_tries, read_timeout, recv_size, response_timeout, stream_timeout}
use Rattle.trace_points.specs.questions.Configured.{conf_of}
use Rattle.trace_points.specs.declared.questions.configured.ServerUse.{ServerUse}

module _ (servers : List ServerUse) (timeout : ℕ) (t : Transports) where
  given : AreLimited t → AreGiven (conf_of servers timeout t) t
  given h = settings_given (conf_of servers timeout t) t h

  pub places_are : AreLimited t → t.dgram.max_parallel ≡ max_places (conf_of servers timeout t)
  places_are h = ap (λ d. d.max_parallel) (given h).0

  pub tries_are : t.dgram.max_retries + 1 ≡ max_tries (conf_of servers timeout t)
  unfolding max_tries
  tries_are = omega arith

  pub size_is : t.dgram.recv_size ≡ recv_size (conf_of servers timeout t)
  unfolding recv_size
  size_is = refl

  pub announced_is : AreLimited t → t.dgram.udp_payload_size ≡ (conf_of servers timeout t).transports.dgram_udp_payload_size
  announced_is h = sized_same t.dgram.udp_payload_size h.0.2

  pub read_is : AreLimited t → t.dgram.read_timeout ≡ read_timeout (conf_of servers timeout t)
  read_is h = ap (λ d. d.read_timeout) (given h).0

  pub response_is : AreLimited t → t.multi_stream.stream.response_timeout ≡ response_timeout (conf_of servers timeout t)
  response_is h = ap (λ m. m.stream.response_timeout) (given h).1

  pub idle_is : t.multi_stream.stream.idle_timeout ≡ idle_timeout (conf_of servers timeout t)
  unfolding idle_timeout
  idle_is = refl

  pub request_is : AreLimited t → t.multi_stream.response_timeout ≡ stream_timeout (conf_of servers timeout t)
  request_is h = ap (λ m. m.response_timeout) (given h).1
