-- A worked row of one server by datagrams whose slots are all taken.
use Rattle.proof_right.specs.examples.Rows.{by_datagrams}
use Rattle.std.specs.Prelude.{◌≡◌, false, Some, None, [], ◌∷◌, ◌++◌}
use Rattle.client_request.specs.declared.event.What.TheVariants.{Datagram}
use Rattle.client_request.specs.declared.event.Out.TheVariants.{Start, OpenDgram, Close}
use Rattle.client_request.specs.declared.event.Via.TheVariants.{Stream}
use Rattle.right_trace.specs.Updates.{with_at}
use Rattle.proof_right.specs.machine.Streams.{no_connection}
use Rattle.proof_right.specs.machine.Dgrams.{Queued, Sent, Tryer}
use Rattle.proof_right.specs.machine.Served.{Served, Acts}
use Rattle.proof_right.specs.machine.Part.{Act}
use Rattle.proof_right.specs.examples.Messages.{plain_request, aaaa_request, cut_answer}

-- two of the requests: one was sent at place 0, and one waits for a slot
abbrev pub sent_first : Tryer
sent_first = record { request = plain_request; tries = 1; stage = Sent 0 4660 10 }

abbrev pub queued_behind : Tryer
queued_behind = record { request = aaaa_request; tries = 0; stage = Queued }

-- all slots are taken, and a cut answer comes at place 0
abbrev pub all_slots_taken : Served
all_slots_taken = record {
  server = record {
    by_dgram = record { held = with_at 0 (Some sent_first) (with_at 1 (Some queued_behind) (λ k. None)); at = with_at 0 (Some 0) (λ p. None); used = 100 };
    by_stream = no_connection;
  };
  clock = 20000;
  pending = Datagram 0 (cut_answer 18 52);
  taken = false;
  place = 0;
  frames = [];
}

-- The place is closed, the slot is given on, and then the request goes on by stream.
pub record SlotIsGivenOn : Type 0 where
  pub closes : Act Served
  pub opens : Act Served
  pub falls_back : Act Served
  pub first : Acts by_datagrams 0 100 all_slots_taken closes
  pub second : Acts by_datagrams 0 closes.place closes.state opens
  pub third : Acts by_datagrams 0 opens.place opens.state falls_back
  pub outs : closes.outs ++ opens.outs ++ falls_back.outs ≡ Close 0 ∷ OpenDgram 100 0 ∷ Start 0 0 Stream ∷ []
