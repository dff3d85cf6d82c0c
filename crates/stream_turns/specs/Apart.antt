-- A stream connection whose results stand on a board of its own: nobody takes them but who waits for them.
use Rattle.std.specs.Prelude.{ℕ, Bool, List, Option, None, option_map}
use Rattle.client_request.specs.Request.{Request}
use Rattle.client_request.specs.Requests.{for_one, for_several}
use Rattle.client_request.specs.View.{View, Step, Transport}
use Rattle.client_stream.specs.Plain as stream
use Rattle.client_stream.specs.Plain.{Asked, Stream, asked}
use Rattle.stream_turns.specs.declared.apart.Apart.{Apart}

-- whether the connection gave up
abbrev pub holds_failed : Apart → Bool
holds_failed u = u.line.failed

-- The connection makes a step, and sees its own board in the place of the other.
abbrev pub on_own_board : Step (Stream Request Request) → Step Apart
on_own_board step u v =
    option_map (λ x. (record { line = x.0; board = x.1.board }, record x.1 { board = v.board })) (step u.line (record v { board = u.board }))

abbrev pub requests : Transport Request (Stream Request Request) Asked
requests = stream.transport for_one for_several

abbrev pub transport : Transport Request Apart Asked
transport = record {
  send = λ request. on_own_board (requests.send request);
  step = λ heard. on_own_board (requests.step heard);
  cancel = λ asked. on_own_board (requests.cancel asked);
  response = λ request u v. asked v.ticket;
}

-- Nothing stands in for a result: a connection keeps no message.
abbrev pub stale : Asked → Apart → View → Option (List ℕ)
stale asked u v = None
