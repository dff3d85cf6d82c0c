-- A request as it is sent by datagram: under an id, with the payload size that is announced, if one is.
use Rattle.std.proofs.Common.{◌≡◌, ℕ, ◌<◌, List, refl, ap}
use Rattle.std.specs.Prelude.{Option, Some, None}
use Rattle.dns_base.specs.Answering.{is_answer}
use Rattle.client_request.specs.Request.{Request, is_answered, with_id}
use Rattle.client_request.specs.Requests.{for_one}
use Rattle.client_dgram.specs.Plain.{prepared, with_size}
use Rattle.dns_base.specs.Header as head
use Rattle.right_settings.specs.Given.{dgrams_of}
use Rattle.right_trace.specs.Messages.{announcing, answers, under}
use Rattle.right_trace.specs.Trace.{Conf}

-- the plain machine makes the same of it
pub prepared_so : (c : Conf) (server id : ℕ) (r : Request) → prepared for_one server (dgrams_of c) id r ≡ under c id r
prepared_so c server id r = go c.transports.dgram_udp_payload_size
  where
    go : (size : Option ℕ) → with_size for_one server (dgrams_of c) size (with_id id r) ≡ announcing size (with_id id r)
    go None = refl
    go (Some n) = refl

-- what was sent once is sent again as if it had not been
pub under_again : (c : Conf) (n id : ℕ) (r : Request) → under c n (under c id r) ≡ under c n r
under_again c n id r = go c.transports.dgram_udp_payload_size
  where
    go : (size : Option ℕ) → announcing size (with_id n (announcing size (with_id id r))) ≡ announcing size (with_id n r)
    go None = refl
    go (Some m) = refl

-- what answers it as it was sent answers the request under that id
pub answered_same : (c : Conf) (r : Request) (id : ℕ) (octets : List ℕ) → head.id_of (head.with_id id r.header) ≡ id → is_answered octets (under c id r) ≡ answers r id octets
unfolding answers
answered_same c r id octets same = go c.transports.dgram_udp_payload_size
  where
    go : (size : Option ℕ) → is_answered octets (announcing size (with_id id r)) ≡ is_answer id r.base octets
    go None = ap (λ i. is_answer i r.base octets) same
    go (Some n) = ap (λ i. is_answer i r.base octets) same
