-- A pointer that is copied from the data of one message into a message of another layout names something else there.
use Rattle.std.proofs.Common.{◌≡◌, ℕ, Option, Some, None, List, [], ◌∷◌, refl, arith, sym, ap, subst, ◌∙◌, length}
use Rattle.std.specs.Prelude.{option_map}
use Rattle.dns_names.specs.Name.{name_at, walk, head_at}
use Rattle.dns_base.specs.Data.{Data, Named, data_at, data_spelling}
use Rattle.dns_base.specs.Message.{question_at, record_at, list_at, items_at, questions_of, answer_of, authority_of, additional_of, answer_items, authority_items, additional_items, first_question, sole_question, reads}
use Rattle.dns_base.specs.Knowing.{knows}
use Rattle.dns_base.specs.OptRecord.{opt_of, opt_rcode}
use Rattle.right_trace.specs.Trace.{Conf}
use Rattle.right_trace.specs.Messages.{base_is_read}
use Rattle.right_trace.specs.Settings.{Settings}
use Rattle.right_trace.specs.Keys.{key_of, question_of}
use Rattle.right_trace.specs.Parts.{Item as Entry, Parts, Says, known_parts, lowered_parts}
use Rattle.right_trace.specs.Validity.{second}
use Rattle.right_trace.specs.Views.{view_of}
use Rattle.right_trace.specs.Right.{Right}
use Rattle.proof_right.specs.examples.Names.{afsdb_request, afsdb_datagram, pointing, pointer_copied, renamed}
use Rattle.proof_right.proofs.wrong.Cache.{is_of_it}

-- how many labels the name in the data of the first record has
abbrev labels_in : Data → ℕ
labels_in (Named it) = length it.first
labels_in _ = 0

abbrev first_labels : List (Entry Data) → ℕ
first_labels [] = 0
first_labels (x ∷ xs) = labels_in x.content

abbrev labels_of : Option (Parts Data) → ℕ
labels_of None = 0
labels_of (Some x) = first_labels x.answer

-- what is computed: mail.com has two labels, and mail has one
record Apart : Type 0 where
  pub parts : Parts Data
  pub is : known_parts pointing ≡ Some parts
  pub said : labels_of (Some (lowered_parts (view_of afsdb_request afsdb_request 30000000 parts))) ≡ 2
  pub copied : labels_of (option_map lowered_parts (known_parts (pointer_copied 70))) ≡ 1

apart : Apart
unfolding name_at walk head_at data_at data_spelling question_at record_at list_at items_at questions_of answer_of authority_of additional_of answer_items authority_items additional_items first_question sole_question reads knows opt_of opt_rcode base_is_read question_of key_of known_parts second
apart = record { parts = _; is = refl; said = refl; copied = refl }

other_name : (x : Parts Data) → known_parts pointing ≡ Some x → Says (pointer_copied 70) (view_of afsdb_request afsdb_request 30000000 x) → ⊥
other_name x known says =
    let same : apart.parts ≡ x = (let z = sym apart.is ∙ known in cc) in
    let said : labels_of (Some (lowered_parts (view_of afsdb_request afsdb_request 30000000 x))) ≡ 2 = subst (λ x. labels_of (Some (lowered_parts (view_of afsdb_request afsdb_request 30000000 x))) ≡ 2) same apart.said in
    let z = ap labels_of says in
    let copied = apart.copied in
    omega arith

pub not_renamed : (c : Conf) (s : Settings) → Right c s renamed → ⊥
not_renamed c s h = (let x = is_of_it afsdb_request afsdb_datagram pointing c s 30000000 afsdb_request (pointer_copied 70) h in other_name x.parts x.known x.says)
