-- Worked traces with two servers, computed.
use Rattle.std.proofs.Common.{◌≡◌, ℕ, zero, suc, ◌<◌, true, false, ◌⊎◌, inl, inr, [], ◌∷◌, refl, arith}
use Rattle.std.proofs.lemmas.Bool.Decides.{nat_tests}
use Rattle.dns_names.specs.Name.{name_at, walk, head_at}
use Rattle.dns_base.specs.Data.{data_at, data_spelling}
use Rattle.dns_base.specs.Message.{question_at, record_at, list_at, items_at, questions_of, answer_of, authority_of, additional_of, answer_items, authority_items, additional_items, first_question, sole_question, reads}
use Rattle.dns_base.specs.OptRecord.{opt_of, opt_rcode}
use Rattle.dns_base.specs.Answering.{is_answer}
use Rattle.client_request.specs.Carries.{contents_of}
use Rattle.client_request.specs.declared.fault.Fault.TheVariants.{Refused}
use Rattle.client_request.specs.declared.event.What.TheVariants.{Ask, Opened, OpenFailed, Datagram, Tick}
use Rattle.client_request.specs.declared.event.Via.TheVariants.{Dgram}
use Rattle.right_trace.specs.Trace.{History, Came}
use Rattle.right_trace.specs.Time.{read_timeout, EarlierRow, OfRow, recv_size, max_places, max_tries}
use Rattle.right_trace.specs.Messages.{CarriesBy, id_in, answers, truncated}
use Rattle.right_trace.specs.Requests.{handed}
use Rattle.right_trace.specs.Places.{stand, Alive, is_told}
use Rattle.right_trace.specs.Validity.{is_deferred}
use Rattle.right_trace.specs.Coming.{CameFor, SomeCame, FirstEarlier}
use Rattle.right_trace.specs.Replies.{Deferred, OkIsRight, Fresh}
use Rattle.right_trace.specs.Orderly.{OfDgram, ReplyBeforeItsSend}
use Rattle.proof_right.specs.examples.Messages.{plain_request, as_datagram, failing}
use Rattle.right_trace.specs.Settings.{first_settings}
use Rattle.proof_right.specs.examples.Rows.{so_far, two_servers, deferring}
use Rattle.proof_right.specs.examples.Servers.{failing_server, WorkedServers}
use Rattle.proof_right.proofs.client.Promptness.{none_first}

abbrev last_row : History
last_row = Came (record { moment = record { 0 = 20000 }; what = OpenFailed 1 Refused }) ∷ so_far 3 failing_server

pub carried : CarriesBy two_servers Dgram (as_datagram 0 0) plain_request 0
unfolding name_at walk head_at data_at data_spelling question_at record_at list_at items_at questions_of answer_of authority_of additional_of answer_items authority_items additional_items first_question sole_question reads opt_of opt_rcode contents_of id_in
carried = (record { contents = _; are = refl; reading = _; read = refl; header = refl; agree = record { questions = (refl, tt); answer = tt; authority = tt; additional = (record { owner = refl; rtype = refl; class = refl; ttl = refl; content = refl }, tt) } }, refl)

pub answers_it : answers plain_request 0 failing ≡ true
unfolding answers is_answer name_at walk head_at question_at items_at
answers_it = refl

pub whole : truncated failing ≡ false
unfolding truncated
whole = refl

came_it : CameFor two_servers 0 failing (so_far 2 failing_server) (Datagram 0 failing) (so_far 3 failing_server)
unfolding read_timeout recv_size max_places max_tries
came_it = record {
  request = plain_request;
  via = Dgram;
  server = 1;
  place = 0;
  id = 0;
  matches = record {
    comes = record { is_open = record { stands = record { asked = (0, refl); waiting = refl; alive = refl; at = refl; known = omega arith }; octets = as_datagram 0 0; sent = inl refl; carries = carried }; first = refl };
    agrees = answers_it;
    whole = rw whole refl;
  };
}

-- nothing came before
none_by_opening : SomeCame two_servers 0 (so_far 1 failing_server) (Opened 0) (so_far 2 failing_server) → ⊥
none_by_opening z = none_first two_servers z.came.via z.came.id z.message z.came.matches.comes.first

none_by_asking : SomeCame two_servers 0 [] (Ask plain_request) (so_far 1 failing_server) → ⊥
none_by_asking z = none_first two_servers z.came.via z.came.id z.message z.came.matches.comes.first

none_at_first : SomeCame two_servers 0 [] Tick [] → ⊥
none_at_first z = none_first two_servers z.came.via z.came.id z.message z.came.matches.comes.first

none_before : EarlierRow (OfRow (SomeCame two_servers 0)) (so_far 3 failing_server) → ⊥
none_before (inl z) = none_by_opening z
none_before (inr (inl z)) = none_by_asking z
none_before (inr (inr (inl z))) = none_at_first z
none_before (inr (inr (inr z))) = z

none_alive : (p : ℕ) → (stand p last_row ≡ Alive) ⊎ ((stand p (so_far 3 failing_server) ≡ Alive) × (is_told p (OpenFailed 1 Refused) ≡ false)) → ⊥
none_alive p (inl e) = grind (arith, nat_tests)
none_alive p (inr e) = (let e = e.0 in grind (arith, nat_tests))

both_handed : (i : ℕ) → i < 2 → handed 0 i last_row ≡ true
both_handed zero lt = refl
both_handed (suc zero) lt = refl
both_handed (suc (suc i)) lt = absurd (omega arith)

pub defers_it : is_deferred deferring failing ≡ true
unfolding name_at walk head_at data_at data_spelling question_at record_at list_at items_at questions_of answer_of authority_of additional_of answer_items authority_items additional_items first_question sole_question reads opt_of opt_rcode is_deferred
defers_it = refl

defers_it_not : is_deferred first_settings failing ≡ false
unfolding name_at walk head_at data_at data_spelling question_at record_at list_at items_at questions_of answer_of authority_of additional_of answer_items authority_items additional_items first_question sole_question reads opt_of opt_rcode is_deferred
defers_it_not = refl

pub given_at_last : OkIsRight two_servers deferring 0 failing (so_far 3 failing_server) (OpenFailed 1 Refused) last_row
given_at_last = Fresh (Deferred defers_it (inl came_it)) (λ d. (
  record { handed = λ i lt. both_handed i lt; over = λ i lt o. none_alive o.place o.alive },
  FirstEarlier (inl (came_it, none_before)),
))

pub worked : WorkedServers
worked = record {
  first_alone = refl;
  both_have_it = refl;
  one_place_of_the_first = refl;
  one_place_of_the_second = refl;
  wanted_at_the_first = refl;
  none_of_the_first = refl;
  none_of_the_second = refl;
  none_wanted = refl;
  closed_by_the_reply = OfDgram 1 refl (ReplyBeforeItsSend _ refl refl 0 refl (record { now = refl; not_before = refl }));
  defers_it = defers_it;
  defers_it_not = defers_it_not;
  is_given_at_last = given_at_last;
}
