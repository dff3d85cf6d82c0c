-- A record whose name was compressed is given again with its name written out.
use Rattle.std.proofs.Common.{◌≡◌, ℕ, ◌≤◌, true, false, Some, None, refl, arith}
use Rattle.std.specs.Prelude.{Ok}
use Rattle.std.proofs.lemmas.Bool.{leb-true}
use Rattle.dns_names.specs.Name.{name_at, walk, head_at}
use Rattle.dns_base.specs.Data.{Data, data_at, data_spelling}
use Rattle.dns_base.specs.Draft.{size, limit_of, counts_in, fresh, with_header, pushed_question, pushed_record, cleared, finished, refusal}
use Rattle.dns_base.specs.Sections.{counts_spelling}
use Rattle.dns_base.specs.Message.{question_at, record_at, list_at, items_at, questions_of, answer_of, authority_of, additional_of, answer_items, authority_items, additional_items, first_question, sole_question, reads}
use Rattle.dns_base.specs.Knowing.{knows}
use Rattle.dns_base.specs.OptRecord.{opt_of, opt_rcode}
use Rattle.dns_base.specs.Answering.{is_answer}
use Rattle.client_request.specs.Carries.{contents_of, IsOfOctets}
use Rattle.client_request.specs.Composed.{appended, composed}
use Rattle.client_request.specs.declared.event.Via.TheVariants.{Dgram}
use Rattle.right_trace.specs.Messages.{Octets, CarriesBy, id_in, answers, truncated, base_is_read}
use Rattle.right_trace.specs.Keys.{question_of, key_of, is_cacheable}
use Rattle.right_trace.specs.Parts.{Parts, Says, read_parts, known_parts}
use Rattle.right_trace.specs.Right.{Right}
use Rattle.right_trace.specs.Settings.{first_settings}
use Rattle.right_trace.specs.Timely.{Timely}
use Rattle.right_trace.specs.Validity.{second, validity_of_message}
use Rattle.right_trace.specs.Views.{view_of, view_validity, IsValidView}
use Rattle.right_trace.proofs.Asked.{keys_refl}
use Rattle.proof_right.specs.machine.Client.{outcome}
use Rattle.proof_right.specs.examples.Rows.{by_datagrams}
use Rattle.proof_right.specs.examples.Names.{afsdb_request, afsdb_datagram, pointing, written_out, named_again}
use Rattle.proof_right.proofs.Composing.{composed_composes}
use Rattle.proof_right.proofs.server.Concrete.{every_run}
use Rattle.proof_right.proofs.worked.Resting.{below, at_most}
use Rattle.proof_right.proofs.worked.Rightness.{are_octets}
use Rattle.proof_right.proofs.worked.Runs.{is_final, view_run}

is_composed : (o : Octets) × (composed afsdb_request ≡ Ok o)
unfolding name_at walk head_at data_at data_spelling question_at record_at list_at items_at questions_of answer_of authority_of additional_of answer_items authority_items additional_items first_question size limit_of counts_in fresh with_header pushed_question pushed_record cleared finished refusal counts_spelling appended composed
is_composed = (_, refl)

carried : CarriesBy by_datagrams Dgram afsdb_datagram afsdb_request 4660
unfolding name_at walk head_at data_at data_spelling question_at record_at list_at items_at questions_of answer_of authority_of additional_of answer_items authority_items additional_items first_question sole_question reads knows opt_of opt_rcode contents_of id_in
carried = (record { contents = _; are = refl; reading = _; read = refl; header = refl; agree = record { questions = (refl, tt); answer = tt; authority = tt; additional = (record { owner = refl; rtype = refl; class = refl; ttl = refl; content = refl }, tt) } }, refl)

-- what is computed of the request and of the answer that came
record Computed : Type 0 where
  pub cacheable : is_cacheable afsdb_request ≡ true
  pub answers_it : answers afsdb_request 4660 pointing ≡ true
  pub whole : truncated pointing ≡ false
  pub valid : validity_of_message first_settings pointing ≡ Some 100000000
  pub kept : outcome first_settings 0 afsdb_request (Ok pointing) ≡ record { request = 0; asked = afsdb_request; result = Ok pointing; given = Ok pointing; is_stored = true; stale = None }

computed : Computed
unfolding name_at walk head_at data_at data_spelling question_at record_at list_at items_at questions_of answer_of authority_of additional_of answer_items authority_items additional_items first_question sole_question reads knows opt_of opt_rcode contents_of answers is_answer base_is_read truncated question_of key_of is_cacheable read_parts known_parts second validity_of_message
computed = record { cacheable = refl; answers_it = refl; whole = refl; valid = refl; kept = refl }

-- the answer as a view: its name stands written out, at both ages
record Viewable : Type 0 where
  pub parts : Parts Data
  pub known : known_parts pointing ≡ Some parts
  pub in_time : 100000000 ≤ view_validity first_settings afsdb_request afsdb_request parts
  pub after_30 : Says (written_out 70) (view_of afsdb_request afsdb_request 30000000 parts)
  pub after_100 : Says (written_out 0) (view_of afsdb_request afsdb_request 100000000 parts)

viewable : Viewable
unfolding name_at walk head_at data_at data_spelling question_at record_at list_at items_at questions_of answer_of authority_of additional_of answer_items authority_items additional_items first_question sole_question reads knows opt_of opt_rcode contents_of base_is_read question_of key_of known_parts second
viewable = record { parts = _; known = refl; in_time = omega arith; after_30 = refl; after_100 = refl }

valid_at : (age : ℕ) → age ≤ 100000000 → IsValidView first_settings afsdb_request afsdb_request pointing viewable.parts age
valid_at age le = record { known = viewable.known; validity = 100000000; is_validity = computed.valid; kept = below 0 100000000 refl; in_time = (let v = viewable.in_time in omega arith) }

of_octets : IsOfOctets afsdb_request
of_octets = record { base = are_octets afsdb_request.base refl; long = leb-true 12 29 refl; header = refl; opt = tt }

pub named_again_is_right : Right by_datagrams first_settings named_again × Timely by_datagrams named_again
named_again_is_right =
    every_run by_datagrams first_settings composed named_again (composed_composes by_datagrams) (of_octets, (tt, (tt, (of_octets, (of_octets, (of_octets, tt))))))
    (view_run composed is_composed.0 afsdb_request is_composed.1 afsdb_datagram pointing (written_out 70) (written_out 0) viewable.parts carried (at_most 12 61 refl) computed.answers_it computed.whole computed.kept (is_final pointing)
    (record { cacheable = computed.cacheable; keys = keys_refl (key_of afsdb_request) }) (valid_at 30000000 (leb-true 30000000 100000000 refl)) viewable.after_30 (valid_at 100000000 (leb-true 100000000 100000000 refl)) viewable.after_100)
