-- A worked request by datagram, computed.
use Rattle.proof_right.specs.examples.Rows.{by_datagrams}
use Rattle.std.proofs.Common.{◌≡◌, ℕ, true, inl, refl, ap, sym, subst, arith}
use Rattle.std.proofs.lemmas.Bool.Decides.{nat_tests}
use Rattle.dns_names.specs.Name.{name_at, walk, head_at}
use Rattle.dns_base.specs.Data.{data_at, data_spelling}
use Rattle.dns_base.specs.Message.{question_at, record_at, list_at, items_at, questions_of, answer_of, authority_of, additional_of, answer_items, authority_items, additional_items, first_question, sole_question, reads}
use Rattle.dns_base.specs.Knowing.{knows}
use Rattle.dns_base.specs.OptRecord.{opt_of, opt_rcode}
use Rattle.dns_base.specs.Answering.{is_answer}
use Rattle.client_request.specs.Carries.{contents_of}
use Rattle.client_request.specs.declared.event.What.{What}
use Rattle.client_request.specs.declared.event.What.TheVariants.{RecvFailed}
use Rattle.client_request.specs.declared.event.Via.TheVariants.{Dgram}
use Rattle.client_request.specs.declared.fault.Fault.{Fault}
use Rattle.right_trace.specs.Time.{read_timeout, recv_size, max_places, max_tries}
use Rattle.right_trace.specs.Messages.{id_in, answers, base_is_read, passes_count, fits, is_valid}
use Rattle.right_trace.specs.Requests.{started}
use Rattle.right_trace.specs.Places.{is_at}
use Rattle.right_trace.specs.Causes.{named, IsOneOf, FailedAt}
use Rattle.proof_right.specs.examples.Messages.{plain_request, as_datagram}
use Rattle.proof_right.specs.examples.Dgrams.{opened_example, example_history, elsewhere_example, WorkedDatagrams}
use Rattle.proof_right.proofs.worked.Cache.{carried}
use Rattle.proof_right.proofs.worked.Rightness.{of_octets}

-- the place of which an event tells that reading failed
abbrev place_of : What → ℕ
place_of (RecvFailed p f) = p
place_of _ = 0

not_there : (f : Fault) → FailedAt by_datagrams (λ p. RecvFailed p f) 0 example_history (RecvFailed 1 f) → ⊥
not_there f x = subst (λ p. IsOneOf x.send (named p 0 example_history)) (sym (ap place_of x.is_told)) x.named_there

another_server : (f : Fault) → FailedAt by_datagrams (λ p. RecvFailed p f) 0 elsewhere_example (RecvFailed 0 f) → ⊥
another_server f x =
    let at : is_at Dgram x.server 0 elsewhere_example ≡ true = subst (λ p. is_at Dgram x.server p elsewhere_example ≡ true) (sym (ap place_of x.is_told)) x.at in
    let is : x.server ≡ 1 = grind (arith, nat_tests) in
    let begun : started 0 1 Dgram elsewhere_example ≡ true = subst (λ s. started 0 s Dgram elsewhere_example ≡ true) is x.has_it in
    absurd (cc)

not_yet : (f : Fault) → FailedAt by_datagrams (λ p. RecvFailed p f) 0 opened_example (RecvFailed 0 f) → ⊥
not_yet f x = subst (λ p. IsOneOf x.send (named p 0 opened_example)) (sym (ap place_of x.is_told)) x.named_there

pub worked : WorkedDatagrams
unfolding name_at walk head_at data_at data_spelling question_at record_at list_at items_at questions_of answer_of authority_of additional_of answer_items authority_items additional_items first_question sole_question reads knows opt_of opt_rcode is_answer contents_of read_timeout recv_size max_places max_tries id_in answers base_is_read passes_count fits is_valid
worked = record {
  alive = refl;
  at = refl;
  waits = refl;
  clock = refl;
  one_place = refl;
  one_request = refl;
  one_send = refl;
  still_open = refl;
  closed_later = refl;
  comes = refl;
  comes_nowhere = refl;
  is_answer = refl;
  in_capitals = refl;
  another_id = refl;
  another_question = refl;
  valid = refl;
  in_octets = of_octets;
  carries = carried;
  may_send = record {
    server = 0;
    at = refl;
    alive = refl;
    first = refl;
    begun = refl;
    waits = refl;
    request = plain_request;
    asked = (0, refl);
    carries = carried;
  };
  next_try = record {
    server = 0;
    at = refl;
    alive = refl;
    first = refl;
    begun = refl;
    waits = refl;
    request = plain_request;
    asked = (0, refl);
    carries = carried;
  };
  not_where_it_was = λ may. absurd (let e = may.alive in cc);
  not_again = λ may. absurd (let e = may.first in cc);
  blamed = λ f. record {
    place = 0;
    server = 0;
    is_told = refl;
    at = refl;
    alive = refl;
    has_it = refl;
    request = plain_request;
    asked = (0, refl);
    send = record { id = 4660; octets = as_datagram 18 52 };
    named_there = inl refl;
    carries = carried;
  };
  was_live = refl;
  not_blamed_elsewhere = not_there;
  not_blamed_of_another_server = another_server;
  not_yet_blamed = not_yet;
}
