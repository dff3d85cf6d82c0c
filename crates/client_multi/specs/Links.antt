-- A stream connection, as reconnection uses it: for requests that one message answers. No transfer goes by it.
use Rattle.std.specs.Prelude.{◌==◌, length}
use Rattle.client_request.specs.Request.{Request}
use Rattle.client_request.specs.Requests.{Requests, for_several}
use Rattle.client_stream.specs.Plain.{Stream, started, has_ended, timer_at, transport}
use Rattle.client_multi.specs.MultiStream.{OneStream}

abbrev pub Link : Type 0 → Type 0
Link R = Stream R Request

abbrev pub one_stream : {R : Type 0} → Requests R → OneStream R (Link R)
one_stream requests = record {
  calls = transport requests for_several;
  opened = started;
  has_ended = λ c. has_ended c.line.stage;
  is_full = λ c. length c.line.held.held == 32768;
  timer_of = λ c. timer_at c.line.stage;
}
