-- What the tests of octets decide, in the words of a right trace.
use Rattle.std.specs.Prelude.{◌≡◌, ℕ, true}
use Rattle.dns_base.specs.Answering.{is_answer}
use Rattle.client_request.specs.Request.{Request}
use Rattle.client_request.specs.declared.event.Via.{Via}
use Rattle.right_trace.specs.Messages.{Octets, CarriesBy, answers}
use Rattle.message_judging.specs.matching.Matching.{carries_by}
use Rattle.right_trace.specs.Trace.{Conf}

-- octets carry a request exactly where the test of the configuration's payload size says so
pub record CarryingIsDecided (c : Conf) : Type 0 where
  pub so : (v : Via) (o : Octets) (r : Request) (id : ℕ) → carries_by c.transports.dgram_udp_payload_size v o r id ≡ true → CarriesBy c v o r id
  pub back : (v : Via) (o : Octets) (r : Request) (id : ℕ) → CarriesBy c v o r id → carries_by c.transports.dgram_udp_payload_size v o r id ≡ true

abbrev pub AnswersAreDecided : Type 0
AnswersAreDecided = (r : Request) (id : ℕ) (o : Octets) → answers r id o ≡ is_answer id r.base o
