-- Worked traces with the cache, computed.
use Rattle.std.proofs.Common.{◌≡◌, ℕ, true, false, Some, ◌∷◌, inl, inr, refl, arith}
use Rattle.std.specs.Prelude.{◌≤◌, drop, option_map}
use Rattle.dns_names.specs.Name.{name_at, walk, head_at}
use Rattle.dns_base.specs.Data.{Data, data_at, data_spelling}
use Rattle.dns_base.specs.Message.{question_at, record_at, list_at, items_at, questions_of, answer_of, authority_of, additional_of, answer_items, authority_items, additional_items, first_question, sole_question, reads}
use Rattle.dns_base.specs.Knowing.{knows}
use Rattle.dns_base.specs.OptRecord.{opt_of, opt_rcode}
use Rattle.dns_base.specs.Answering.{is_answer}
use Rattle.client_request.specs.Carries.{contents_of}
use Rattle.client_request.specs.declared.fault.Fault.TheVariants.{Refused}
use Rattle.client_request.specs.declared.event.What.TheVariants.{OpenFailed, Datagram}
use Rattle.client_request.specs.declared.event.Out.TheVariants.{Close}
use Rattle.client_request.specs.declared.event.Via.TheVariants.{Dgram, Stream}
use Rattle.right_trace.specs.Trace.{History, Came, Put}
use Rattle.right_trace.specs.Time.{read_timeout, recv_size, max_places, max_tries}
use Rattle.right_trace.specs.Messages.{Octets, CarriesBy, id_in, answers, truncated, base_is_read, passes_count, fits, is_valid}
use Rattle.right_trace.specs.Keys.{Do, Ad, Plain, Covers, question_of, key_of, is_cacheable}
use Rattle.right_trace.specs.Parts.{Parts, Says, read_parts, known_parts, lowered_parts}
use Rattle.right_trace.specs.Validity.{second, validity_of_message, is_deferred}
use Rattle.right_trace.specs.Views.{view_of, view_validity}
use Rattle.right_trace.specs.Coming.{CameFor}
use Rattle.right_trace.specs.Replies.{IsFreshReply, InThisRow}
use Rattle.right_trace.specs.Causes.{NotOpened}
use Rattle.right_trace.specs.Errors.{Here, ByServer, NoServer, Own, Kept}
use Rattle.proof_right.specs.examples.Messages.{plain_request, ad_request, cd_request, do_request, as_datagram, as_frame, answer, signed_answer, unsigned_answer}
use Rattle.right_trace.specs.Settings.{first_settings}
use Rattle.proof_right.specs.examples.Rows.{so_far, by_datagrams}
use Rattle.proof_right.specs.examples.Cache.{asked_again, refused_twice, WorkedCache}
use Rattle.right_trace.proofs.Asked.{covers_refl}
use Rattle.client_request.specs.declared.error.Error.TheVariants as errors
use Rattle.client_request.specs.declared.error.QueryError.TheVariants as query

-- the requests as they are sent
pub carried : CarriesBy by_datagrams Dgram (as_datagram 18 52) plain_request 4660
unfolding name_at walk head_at data_at data_spelling question_at record_at list_at items_at questions_of answer_of authority_of additional_of answer_items authority_items additional_items first_question sole_question reads knows opt_of opt_rcode contents_of id_in
carried = (record { contents = _; are = refl; reading = _; read = refl; header = refl; agree = record { questions = (refl, tt); answer = tt; authority = tt; additional = (record { owner = refl; rtype = refl; class = refl; ttl = refl; content = refl }, tt) } }, refl)

pub carried_in_frame : CarriesBy by_datagrams Stream as_frame plain_request 0
unfolding name_at walk head_at data_at data_spelling question_at record_at list_at items_at questions_of answer_of authority_of additional_of answer_items authority_items additional_items first_question sole_question reads knows opt_of opt_rcode contents_of id_in
carried_in_frame = record { rest = drop 2 as_frame; framed = refl; short = omega arith; named = refl; says = inr (record { contents = _; are = refl; reading = _; read = refl; header = refl; agree = record { questions = (refl, tt); answer = tt; authority = tt; additional = (record { owner = refl; rtype = refl; class = refl; ttl = refl; content = refl }, tt) } }) }

-- the answer came for the first request
pub answers_it : answers plain_request 4660 (answer 18 52 100) ≡ true
unfolding name_at walk head_at data_at data_spelling question_at record_at list_at items_at questions_of answer_of authority_of additional_of answer_items authority_items additional_items first_question sole_question reads knows opt_of opt_rcode contents_of answers is_answer
answers_it = refl

pub whole_answer : truncated (answer 18 52 100) ≡ false
unfolding truncated
whole_answer = refl

abbrev pub answered : History
answered = Put (Close 0) ∷ Came (record { moment = record { 0 = 0 }; what = Datagram 0 (answer 18 52 100) }) ∷ so_far 2 asked_again

pub came_it : CameFor by_datagrams 0 (answer 18 52 100) (so_far 2 asked_again) (Datagram 0 (answer 18 52 100)) answered
unfolding read_timeout recv_size max_places max_tries
came_it = record {
  request = plain_request;
  via = Dgram;
  server = 0;
  place = 0;
  id = 4660;
  matches = record {
    comes = record { is_open = record { stands = record { asked = (0, refl); waiting = refl; alive = refl; at = refl; known = omega arith }; octets = as_datagram 18 52; sent = inl refl; carries = carried }; first = refl };
    agrees = answers_it;
    whole = rw whole_answer refl;
  };
}

pub fresh : IsFreshReply by_datagrams first_settings 0 (answer 18 52 100) 0 (so_far 3 asked_again)
fresh = record { before = answered; put = refl; unmarked = refl; fresh = InThisRow came_it; at = refl }

pub cacheable : is_cacheable plain_request ≡ true
unfolding name_at walk head_at data_at data_spelling question_at record_at list_at items_at questions_of answer_of authority_of additional_of answer_items authority_items additional_items first_question sole_question reads knows opt_of opt_rcode contents_of base_is_read is_cacheable
cacheable = refl

-- what is computed of messages and keys
pub record Computed : Type 0 where
  pub valid : is_valid plain_request ≡ true
  pub valid_for_100 : validity_of_message first_settings (answer 18 52 100) ≡ Some 100000000
  pub after_30 : option_map (λ x. lowered_parts (view_of plain_request plain_request 30000000 x)) (known_parts (answer 18 52 100)) ≡ option_map lowered_parts (known_parts (answer 18 52 70))
  pub after_100 : option_map (λ x. lowered_parts (view_of plain_request plain_request 100000000 x)) (known_parts (answer 18 52 100)) ≡ option_map lowered_parts (known_parts (answer 18 52 0))
  pub view_valid_for_100 : option_map (λ x. view_validity first_settings plain_request plain_request x) (known_parts (answer 18 52 100)) ≡ Some 100000000
  pub signed_for_50 : validity_of_message first_settings signed_answer ≡ Some 50000000
  pub unsigned_for_100 : option_map (λ x. view_validity first_settings do_request ad_request x) (known_parts signed_answer) ≡ Some 100000000
  pub for_ad : option_map (λ x. lowered_parts (view_of do_request ad_request 60000000 x)) (known_parts signed_answer) ≡ option_map lowered_parts (known_parts (unsigned_answer 160))
  pub for_plain : option_map (λ x. lowered_parts (view_of do_request plain_request 60000000 x)) (known_parts signed_answer) ≡ option_map lowered_parts (known_parts (unsigned_answer 128))
  pub cd_differs : (key_of do_request).cd ≡ false
  pub cd_is_set : (key_of cd_request).cd ≡ true
  pub is_do : (key_of do_request).flags ≡ Do
  pub is_ad : (key_of ad_request).flags ≡ Ad
  pub is_plain : (key_of plain_request).flags ≡ Plain

pub computed : Computed
unfolding name_at walk head_at data_at data_spelling question_at record_at list_at items_at questions_of answer_of authority_of additional_of answer_items authority_items additional_items first_question sole_question reads knows opt_of opt_rcode contents_of is_answer base_is_read passes_count fits is_valid truncated question_of key_of is_cacheable read_parts known_parts second validity_of_message is_deferred
computed = record {
  valid = refl;
  valid_for_100 = refl;
  after_30 = refl;
  after_100 = refl;
  view_valid_for_100 = refl;
  signed_for_50 = refl;
  unsigned_for_100 = refl;
  for_ad = refl;
  for_plain = refl;
  cd_differs = refl;
  cd_is_set = refl;
  is_do = refl;
  is_ad = refl;
  is_plain = refl;
}

-- what it is as a view at an age
pub record Viewable (age : ℕ) (m : Octets) : Type 0 where
  pub parts : Parts Data
  pub known : known_parts (answer 18 52 100) ≡ Some parts
  pub in_time : age ≤ view_validity first_settings plain_request plain_request parts
  pub says : Says m (view_of plain_request plain_request age parts)

pub viewable_30 : Viewable 30000000 (answer 18 52 70)
unfolding name_at walk head_at data_at data_spelling question_at record_at list_at items_at questions_of answer_of authority_of additional_of answer_items authority_items additional_items first_question sole_question reads knows opt_of opt_rcode contents_of base_is_read question_of key_of known_parts second
viewable_30 = record { parts = _; known = refl; in_time = omega arith; says = refl }

pub viewable_100 : Viewable 100000000 (answer 18 52 0)
unfolding name_at walk head_at data_at data_spelling question_at record_at list_at items_at questions_of answer_of authority_of additional_of answer_items authority_items additional_items first_question sole_question reads knows opt_of opt_rcode contents_of base_is_read question_of key_of known_parts second
viewable_100 = record { parts = _; known = refl; in_time = omega arith; says = refl }

covers_ad : Covers do_request ad_request
unfolding name_at walk head_at data_at data_spelling question_at record_at list_at items_at questions_of answer_of authority_of additional_of answer_items authority_items additional_items first_question sole_question reads knows opt_of opt_rcode contents_of base_is_read question_of key_of is_cacheable
covers_ad = record { first = refl; second = refl; keys = record { name = refl; rtype = refl; class = refl; cd = refl; rd = refl; flags = refl; signing = refl } }

covers_plain : Covers do_request plain_request
unfolding name_at walk head_at data_at data_spelling question_at record_at list_at items_at questions_of answer_of authority_of additional_of answer_items authority_items additional_items first_question sole_question reads knows opt_of opt_rcode contents_of base_is_read question_of key_of is_cacheable
covers_plain = record { first = refl; second = refl; keys = record { name = refl; rtype = refl; class = refl; cd = refl; rd = refl; flags = refl; signing = refl } }

pub worked : WorkedCache
worked = record {
  cacheable = cacheable;
  carried = carried;
  carried_in_frame = carried_in_frame;
  is_answer = answers_it;
  is_viewed = record {
    asked_here = refl;
    first = plain_request;
    request = plain_request;
    message = answer 18 52 100;
    age = 30000000;
    supplied = record { number = 0; earlier = record { asked = (30000000, refl); below = omega arith; first_asked = (0, refl); covering = covers_refl plain_request cacheable }; moment = 0; got = inr (inl fresh); is_age = refl };
    parts = viewable_30.parts;
    valid = record { known = viewable_30.known; validity = 100000000; is_validity = computed.valid_for_100; kept = omega arith; in_time = viewable_30.in_time };
    says = viewable_30.says;
  };
  is_viewed_last = record {
    asked_here = refl;
    first = plain_request;
    request = plain_request;
    message = answer 18 52 100;
    age = 100000000;
    supplied = record { number = 0; earlier = record { asked = (100000000, refl); below = omega arith; first_asked = (0, refl); covering = covers_refl plain_request cacheable }; moment = 0; got = inr (inr (inr (inl fresh))); is_age = refl };
    parts = viewable_100.parts;
    valid = record { known = viewable_100.known; validity = 100000000; is_validity = computed.valid_for_100; kept = omega arith; in_time = viewable_100.in_time };
    says = viewable_100.says;
  };
  covers_ad = covers_ad;
  covers_plain = covers_plain;
  is_kept = Kept (record {
    asked_here = refl;
    is_kept_at_all = refl;
    number = 0;
    first = plain_request;
    request = plain_request;
    earlier = record { asked = (30000000, refl); below = omega arith; first_asked = (0, refl); covering = covers_refl plain_request cacheable };
    moment = 0;
    got = inr (inl (record { before = Came (record { moment = record { 0 = 0 }; what = OpenFailed 0 Refused }) ∷ so_far 1 refused_twice; put = refl; cause = ByServer (errors.Dgram (query.Connect Refused)) (Here (NotOpened Refused (record { place = 0; server = 0; told = refl; was = inl refl; at = refl; has_it = refl }))); at = refl }));
    recent = omega arith;
  });
  has_no_server = Own (NoServer refl refl) (λ e. absurd (cc));
  valid = computed.valid;
  valid_for_100 = computed.valid_for_100;
  after_30 = computed.after_30;
  after_100 = computed.after_100;
  view_valid_for_100 = computed.view_valid_for_100;
  signed_for_50 = computed.signed_for_50;
  unsigned_for_100 = computed.unsigned_for_100;
  for_ad = computed.for_ad;
  for_plain = computed.for_plain;
  cd_differs = computed.cd_differs;
  cd_is_set = computed.cd_is_set;
  is_do = computed.is_do;
  is_ad = computed.is_ad;
  is_plain = computed.is_plain;
}
