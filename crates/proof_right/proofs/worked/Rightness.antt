-- The worked traces that are runs are right, as every run is.
use Rattle.std.proofs.Common.{◌≡◌, ℕ, zero, suc, ◌<◌, Bool, true, false, ◌&&◌, List, [], ◌∷◌, refl, arith}
use Rattle.std.specs.Prelude.{Ok, nat_lt, slice_index}
use Rattle.std.proofs.lemmas.Bool.{and_parts, leb-true}
use Rattle.std.proofs.lemmas.Bool.Decides.{nat_tests}
use Rattle.dns_names.specs.Name.{name_at, walk, head_at}
use Rattle.dns_base.specs.Data.{data_at, data_spelling}
use Rattle.dns_base.specs.Draft.{size, limit_of, counts_in, fresh, with_header, pushed_question, pushed_record, cleared, finished, refusal}
use Rattle.dns_base.specs.Sections.{counts_spelling}
use Rattle.dns_base.specs.Message.{question_at, record_at, list_at, items_at, questions_of, answer_of, authority_of, additional_of, answer_items, authority_items, additional_items, first_question}
use Rattle.client_request.specs.Carries.{IsOfOctets}
use Rattle.client_request.specs.Composed.{appended, composed}
use Rattle.right_trace.specs.Messages.{Octets}
use Rattle.right_trace.specs.Right.{Right}
use Rattle.right_trace.specs.Timely.{Timely}
use Rattle.proof_right.specs.examples.Messages.{plain_request}
use Rattle.right_trace.specs.Settings.{first_settings}
use Rattle.proof_right.specs.examples.Rows.{by_datagrams}
use Rattle.proof_right.specs.examples.Streams.{cut_goes_on}
use Rattle.proof_right.specs.examples.Cache.{asked_again}
use Rattle.proof_right.proofs.Composing.{composed_composes}
use Rattle.proof_right.proofs.server.Concrete.{every_run}
use Rattle.proof_right.proofs.worked.Runs.{cut_goes_on_is_a_run, asked_again_is_a_run}

-- the plain request is composed
pub is_composed : (o : Octets) × (composed plain_request ≡ Ok o)
unfolding name_at walk head_at data_at data_spelling question_at record_at list_at items_at questions_of answer_of authority_of additional_of answer_items authority_items additional_items first_question size limit_of counts_in fresh with_header pushed_question pushed_record cleared finished refusal counts_spelling appended composed
is_composed = (_, refl)

abbrev all_octets : List ℕ → Bool
all_octets [] = true
all_octets (x ∷ xs) = nat_lt x 256 && all_octets xs

lt_of : (x : ℕ) → nat_lt x 256 ≡ true → x < 256
lt_of x e = grind (arith, nat_tests)

pub are_octets : (xs : List ℕ) → all_octets xs ≡ true → (i : ℕ) → slice_index xs i < 256
are_octets [] e i = lt_of 0 refl
are_octets (x ∷ xs) e zero = lt_of x (and_left (nat_lt x 256) (all_octets xs) e)
  where
    and_left : (a b : Bool) → (a && b) ≡ true → a ≡ true
    and_left true b e = refl
    and_left false b e = absurd (cc)
are_octets (x ∷ xs) e (suc i) = are_octets xs (and_parts (nat_lt x 256) (all_octets xs) e).1 i

pub of_octets : IsOfOctets plain_request
of_octets = record { base = are_octets plain_request.base refl; long = leb-true 12 29 refl; header = refl; opt = tt }

pub cut_goes_on_is_right : Right by_datagrams first_settings cut_goes_on × Timely by_datagrams cut_goes_on
cut_goes_on_is_right = every_run by_datagrams first_settings composed cut_goes_on (composed_composes by_datagrams) (of_octets, (tt, (tt, (tt, (tt, (tt, (tt, tt))))))) (cut_goes_on_is_a_run composed (is_composed.0) is_composed.1)

pub asked_again_is_right : Right by_datagrams first_settings asked_again × Timely by_datagrams asked_again
asked_again_is_right = every_run by_datagrams first_settings composed asked_again (composed_composes by_datagrams) (of_octets, (tt, (tt, (of_octets, (of_octets, (of_octets, tt)))))) (asked_again_is_a_run composed (is_composed.0) is_composed.1)
