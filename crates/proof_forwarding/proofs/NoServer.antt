-- A query of which a forwarder makes a row, where no server is configured.
use Rattle.std.proofs.Common.{◌≡◌, ℕ, zero, suc, ◌<◌, List, [], ◌∷◌, Option, Some, None, Bool, true, false, refl, sym, subst, ap, ◌∙◌, arith}
use Rattle.std.specs.Prelude.{Err, nat_lt, option_and_then, option_map, slice_index, ◌&&◌}
use Rattle.std.proofs.lemmas.Bool.Decides.{nat_tests}
use Rattle.dns_names.specs.Name.{name_at, walk, head_at}
use Rattle.dns_base.specs.Compression.{counted, with_counted_data, with_data, with_fields, with_label, with_name, with_numbers, with_octets, with_question, with_record}
use Rattle.dns_base.specs.Data.{data_at, data_spelling}
use Rattle.dns_base.specs.Draft.{cleared, counts_in, finished, fresh, limit_of, pushed_question, pushed_record, refusal, size, with_header}
use Rattle.dns_base.specs.Holding.{header_in}
use Rattle.dns_base.specs.Message.{question_at, record_at, list_at, items_at, questions_of, answer_of, authority_of, additional_of, answer_items, authority_items, additional_items, first_question, sole_question, reads}
use Rattle.dns_base.specs.OptRecord.{opt_of, opt_record}
use Rattle.dns_base.specs.Sections.{counts_spelling}
use Rattle.client_request.specs.Carries.{IsOfOctets}
use Rattle.client_request.specs.Composed.{appended, composed}
use Rattle.client_request.specs.declared.error.Error.TheVariants.{NoTransportAvailable}
use Rattle.client_request.specs.declared.event.Out.{Out}
use Rattle.client_request.specs.declared.event.Out.TheVariants.{Reply}
use Rattle.client_request.specs.Timers.{due_now}
use Rattle.client_request.specs.declared.event.What.TheVariants.{Ask}
use Rattle.client_steps.specs.Client as plain
use Rattle.client_steps.specs.Whole.{Client, Whole, client_with, machine, plain_step}
use Rattle.client_steps.proofs.Fuel.{none_fires}
use Rattle.front_core.specs.Core.{IsCoreStep, core_serves}
use Rattle.front_core.specs.Forwarded.{Forwards}
use Rattle.front_core.specs.Forwarded as forwarded
use Rattle.front_peers.specs.Items.{asker, no_streams, of_datagram, takes}
use Rattle.front_peers.specs.declared.items.Asker.{Asker}
use Rattle.front_peers.specs.declared.items.Item.TheVariants.{Asks}
use Rattle.front_peers.specs.declared.event.FrontOut.TheVariants.{Answer}
use Rattle.client_request.specs.Request.{Request}
use Rattle.front_queries.specs.Answers.{answer_to}
use Rattle.front_queries.specs.Query.{Query}
use Rattle.front_queries.specs.Spelled.{opt_octets}
use Rattle.front_queries.specs.Refusals.{sorted}
use Rattle.front_queries.specs.Requests.{request_of}
use Rattle.front_queries.specs.declared.sorting.Sorted.{Sorted}
use Rattle.front_queries.specs.declared.sorting.Sorted.TheVariants.{Taken}
use Rattle.front_steps.specs.Steps as steps
use Rattle.front_steps.specs.Steps.{DidItem, DidRow, Doing, Forwarding, Runs, Scene, TookIn, beginning, scene, with_streams, with_waits}
use Rattle.front_steps.specs.Waits.{asks_anew, none_waits, puts_all}
use Rattle.front_steps.specs.declared.putting.Desk.{Desk}
use Rattle.proof_forwarding.specs.Isolation.{AreOfPeer}
use Rattle.proof_forwarding.specs.NoServer.{IsMade, WorkedForwardings, answered, asked, asking, asking_sized, came, failing, failing_sized, first, query, query_sized, replied}

is_taken : sorted asking ≡ Taken query
unfolding name_at walk head_at question_at record_at list_at items_at questions_of answer_of authority_of additional_of answer_items authority_items additional_items first_question sole_question reads opt_of opt_record
is_taken = refl

sized_is_taken : sorted asking_sized ≡ Taken query_sized
unfolding name_at walk head_at data_at data_spelling question_at record_at list_at items_at questions_of answer_of authority_of additional_of answer_items authority_items additional_items first_question sole_question reads opt_of opt_record
sized_is_taken = refl

plain_answer : answer_to query false (Err NoTransportAvailable) ≡ failing
plain_answer = refl

sized_answer : answer_to query_sized false (Err NoTransportAvailable) ≡ failing_sized
unfolding opt_octets
sized_answer = refl

-- ---- the client within

abbrev begun : (ℕ → ℕ) → Client
begun words = plain.at_moment 0 (client_with words first)

abbrev happened : (ℕ → ℕ) → Option Client
happened words = plain.happens machine first.timeout (Ask (request_of query)) (begun words)

abbrev or_as_it_was : Option Client → Client → Client
or_as_it_was None c = c
or_as_it_was (Some d) c = d

abbrev done : (ℕ → ℕ) → Client
done words = or_as_it_was (happened words) (begun words)

happens_so : (words : ℕ → ℕ) → (happened words ≡ Some (done words)) × ((done words).view.outs ≡ Reply 0 (Err NoTransportAvailable) ∷ []) × ((done words).view.timers.set ≡ [])
unfolding name_at walk head_at question_at record_at list_at items_at questions_of answer_of authority_of additional_of answer_items authority_items additional_items first_question sole_question reads opt_of opt_record counted with_counted_data with_data with_fields with_label with_name with_numbers with_octets with_question with_record data_at data_spelling cleared counts_in finished fresh limit_of pushed_question pushed_record refusal size with_header header_in counts_spelling appended composed
happens_so words = (refl, refl, refl)

abbrev new : (ℕ → ℕ) → Whole
new words = record {
  use_vc = first.use_vc;
  transports = first.transports;
  count = first.count;
  layer = (done words).layer;
  asked = (done words).asked;
  timeout = first.timeout;
  now = (done words).view.now;
  board = (done words).view.board;
  timers = (done words).view.timers;
  ticket = (done words).view.ticket;
  place = (done words).view.place;
  failed = false;
}

abbrev left : (ℕ → ℕ) → (ℕ → ℕ)
left words = (done words).view.words

row_is : (words : ℕ → ℕ) → plain_step words asked first ≡ Some (replied, client_with (left words) (new words))
row_is words =
    let so = happens_so words in
    ap (λ (o : Option Client). option_map (plain.row_and_rest asked) (option_and_then (plain.fires_all machine) (option_and_then (plain.happens machine first.timeout (Ask (request_of query))) o))) (none_fires machine (begun words) refl)
    ∙ ap (λ (o : Option Client). option_map (plain.row_and_rest asked) (option_and_then (plain.fires_all machine) o)) so.0
    ∙ ap (option_map (plain.row_and_rest asked)) (none_fires machine (done words) (ap (due_now (done words).view.now) so.2))
    ∙ ap (λ (outs : List Out). Some (record { event = asked; outs = outs }, plain.rested (done words))) so.1

abbrev all_octets : List ℕ → Bool
all_octets [] = true
all_octets (x ∷ xs) = nat_lt x 256 && all_octets xs

small : (n : ℕ) → nat_lt n 256 ≡ true → n < 256
small n is = grind (arith, nat_tests)

both_true : (a b : Bool) → (a && b) ≡ true → (a ≡ true) × (b ≡ true)
both_true true b is = (refl, is)
both_true false b is = absurd (cc)

are_octets : (xs : List ℕ) → all_octets xs ≡ true → (i : ℕ) → slice_index xs i < 256
are_octets [] is i = below
  where
    below : 0 < 256
    below = omega arith
are_octets (x ∷ xs) is zero = small x (both_true (nat_lt x 256) (all_octets xs) is).0
are_octets (x ∷ xs) is (suc i) = are_octets xs (both_true (nat_lt x 256) (all_octets xs) is).1 i

of_octets : IsOfOctets (request_of query)
of_octets = record { base = are_octets (request_of query).base refl; long = omega arith; header = refl; opt = tt }

core_step : (words : ℕ → ℕ) → IsCoreStep first words asked replied (new words) (left words)
core_step words = record { row_is = row_is words; timeout = refl; asked = of_octets; comes = tt }

-- ---- the forwarder

module _ (octets answer : List ℕ) (q : Query) (taken : sorted octets ≡ Taken q) (same : request_of q ≡ request_of query) (answer_is : answer_to q false (Err NoTransportAvailable) ≡ answer) (words : ℕ → ℕ) where
  abbrev the_asker : Asker
  the_asker = asker 1 false q

  abbrev desk : Desk
  desk = record { waits = none_waits; streams = no_streams }

  abbrev start : Scene Whole
  start = scene first words (with_streams (takes (came octets) no_streams).1 desk) []

  abbrev waiting : Desk
  waiting = with_waits (asks_anew the_asker none_waits) (with_streams (takes (came octets) no_streams).1 desk)

  abbrev last : Forwarding Whole
  last = record { within = new words; desk = (puts_all replied.outs waiting).1; failed = false }

  abbrev ended : Scene Whole
  ended = scene (new words) (left words) last.desk (answered octets answer).outs

  did_ask : DidItem IsCoreStep core_serves (came octets).moment (Asks the_asker) start ended (replied ∷ [])
  did_ask = record {
    row = replied;
    rows_are = refl;
    event_is = ap (λ (r : Request). record { moment = record { 0 = 0 }; what = Ask r }) (sym same);
    stepped = subst (λ (r : Request). IsCoreStep first words (record { moment = record { 0 = 0 }; what = Ask r }) replied (new words) (left words)) (sym same) (core_step words);
    outs_are = ap (λ (o : List ℕ). Answer 1 o ∷ []) (sym answer_is);
    desk_is = refl;
  }

  doing_one : Doing IsCoreStep core_serves (came octets).moment (Asks the_asker ∷ []) start [] ended (replied ∷ [])
  doing_one = steps.goes_on (Asks the_asker) [] start ended [] (replied ∷ []) steps.begins did_ask

  abbrev took : TookIn IsCoreStep core_serves (came octets) first words desk ended
  took = record {
    rows = replied ∷ [];
    middle = ended;
    doing = subst (λ (is : Sorted). Doing IsCoreStep core_serves (came octets).moment (of_datagram 1 is) start [] ended (replied ∷ [])) (sym taken) doing_one;
    now = [];
    ticked = (refl, refl);
    runs = steps.steps_on [] (replied ∷ []) replied first (new words) words (left words) steps.rests (core_step words) refl;
  }

  is_made : IsMade words octets answer
  is_made = record {
    last = last;
    left = left words;
    made = forwarded.goes_on [] (answered octets answer ∷ []) (answered octets answer) [] (replied ∷ []) (beginning first) last words (left words) forwarded.begins took refl refl;
  }

pub worked_forwardings : WorkedForwardings
worked_forwardings words = record {
  plain = is_made asking failing query is_taken refl plain_answer words;
  sized = is_made asking_sized failing_sized query_sized sized_is_taken refl sized_answer words;
  alike = (AreOfPeer asking asking_sized query query_sized refl refl refl is_taken sized_is_taken (record { request = refl; key = refl }), tt);
}
