-- Worked traces with two servers: the second is tried when the first is slow, and when it fails.
use Rattle.std.specs.Prelude.{◌≡◌, true, false, List, [], ◌∷◌, Ok}
use Rattle.client_request.specs.declared.fault.Fault.TheVariants.{Refused}
use Rattle.client_request.specs.declared.event.What.TheVariants.{Ask, Opened, OpenFailed, Datagram, Tick}
use Rattle.client_request.specs.declared.event.Out.TheVariants.{Start, OpenDgram, Send, Close, Reply}
use Rattle.client_request.specs.declared.event.Row.{Row}
use Rattle.client_request.specs.declared.event.Via.TheVariants.{Dgram}
use Rattle.right_trace.specs.Trace.{Put, Came}
use Rattle.right_trace.specs.Requests.{handed}
use Rattle.right_trace.specs.Places.{live, demand}
use Rattle.right_trace.specs.Validity.{is_deferred}
use Rattle.right_trace.specs.Replies.{OkIsRight}
use Rattle.right_trace.specs.Orderly.{MayClose}
use Rattle.proof_right.specs.examples.Messages.{plain_request, as_datagram, answer, failing}
use Rattle.right_trace.specs.Settings.{first_settings}
use Rattle.proof_right.specs.examples.Rows.{at, so_far, two_servers, deferring}

-- the server that was tried first is slow; the other one answers, and both places are closed
abbrev pub slow_server : List Row
slow_server =
    at 0 (Ask plain_request) (Start 0 1 Dgram ∷ OpenDgram 0 1 ∷ [])
    ∷ at 300000 Tick (Start 0 0 Dgram ∷ OpenDgram 1 0 ∷ [])
    ∷ at 300000 (Opened 1) (Send 1 0 0 (as_datagram 0 0) ∷ [])
    ∷ at 320000 (Datagram 1 (answer 0 0 100)) (Close 1 ∷ Close 0 ∷ Reply 0 (Ok (answer 0 0 100)) ∷ [])
    ∷ []

-- the server that was tried first fails, which is deferred; the other one's place does not open
abbrev pub failing_server : List Row
failing_server =
    at 0 (Ask plain_request) (Start 0 1 Dgram ∷ OpenDgram 0 1 ∷ [])
    ∷ at 0 (Opened 0) (Send 0 0 0 (as_datagram 0 0) ∷ [])
    ∷ at 10000 (Datagram 0 failing) (Close 0 ∷ Start 0 0 Dgram ∷ OpenDgram 1 0 ∷ [])
    ∷ at 20000 (OpenFailed 1 Refused) (Reply 0 (Ok failing) ∷ [])
    ∷ []

pub record WorkedServers : Type 0 where
  pub first_alone : handed 0 0 (so_far 1 slow_server) ≡ false
  pub both_have_it : handed 0 0 (so_far 2 slow_server) ≡ true
  pub one_place_of_the_first : live 0 (so_far 3 slow_server) ≡ 1
  pub one_place_of_the_second : live 1 (so_far 3 slow_server) ≡ 1
  pub wanted_at_the_first : demand 0 (so_far 3 slow_server) ≡ 1
  pub none_of_the_first : live 0 (so_far 4 slow_server) ≡ 0
  pub none_of_the_second : live 1 (so_far 4 slow_server) ≡ 0
  pub none_wanted : demand 1 (so_far 4 slow_server) ≡ 0
  pub closed_by_the_reply : MayClose two_servers 0 (so_far 3 slow_server) (Datagram 1 (answer 0 0 100)) (Put (Close 1) ∷ Came (record { moment = record { 0 = 320000 }; what = Datagram 1 (answer 0 0 100) }) ∷ so_far 3 slow_server) (so_far 4 slow_server)
  pub defers_it : is_deferred deferring failing ≡ true
  pub defers_it_not : is_deferred first_settings failing ≡ false
  pub is_given_at_last : OkIsRight two_servers deferring 0 failing (so_far 3 failing_server) (OpenFailed 1 Refused) (Came (record { moment = record { 0 = 20000 }; what = OpenFailed 1 Refused }) ∷ so_far 3 failing_server)
