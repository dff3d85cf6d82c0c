-- The octets of a host's name, and that its query asks one question that can be read.
use Rattle.std.proofs.Common.{◌≡◌, ℕ, ◌+◌, ◌<◌, ◌≤◌, ◌/◌, ◌%◌, List, [], ◌∷◌, ◌++◌, arith, ap, sym, subst, refl, ◌∙◌, append_assoc, length, false, inl, inr}
use Rattle.std.specs.Prelude.{codes, IsTrue}
use Rattle.std.specs.Fmt.{decimal}
use Rattle.std.proofs.lemmas.Bool.{cases_lt, false≢true}
use Rattle.std.proofs.lemmas.Fmt.{decimal_digit, decimal_step}
use Rattle.dns_base.specs.Message.{first_question, question_at}
use Rattle.dns_names.specs.Name.{head_at, name_at, spelling, walk}
use Rattle.client_request.specs.Request.{is_misformed}
use Rattle.dns_script.specs.Generated.{header, host_answer, host_label, host_query, host_question, host_record}

two_digits : (host : ℕ) → 10 ≤ host → host < 50 → decimal host ≡ (48 + host / 10) ∷ (48 + host % 10) ∷ []
two_digits host large small =
    decimal_step host large (omega arith) ∙ ap (λ digits. digits ++ (48 + host % 10) ∷ []) (decimal_digit (host / 10) (omega arith))

-- a label behind its length
abbrev labelled : List ℕ → List ℕ
labelled label = length label ∷ label

pub short_label : (host : ℕ) → host < 10 → 2 ∷ 104 ∷ (48 + host) ∷ [] ≡ length (host_label host) ∷ host_label host
short_label host small = sym (ap (λ digits. labelled (codes "h" ++ digits)) (decimal_digit host small))

pub long_label : (host : ℕ) → 10 ≤ host → host < 50 → 3 ∷ 104 ∷ (48 + host / 10) ∷ (48 + host % 10) ∷ [] ≡ length (host_label host) ∷ host_label host
long_label host large small = sym (ap (λ digits. labelled (codes "h" ++ digits)) (two_digits host large small))

-- what stands behind the first label of a question
abbrev pub tail : List ℕ
tail = spelling (codes "example" ∷ codes "com" ∷ []) ++ 0 ∷ 1 ∷ 0 ∷ 1 ∷ []

pub question_behind : (before : List ℕ) (host : ℕ) → (before ++ length (host_label host) ∷ host_label host) ++ tail ≡ before ++ host_question host
question_behind before host =
    append_assoc before (labelled (host_label host)) tail
    ∙ ap (λ question. before ++ question) (sym (append_assoc (labelled (host_label host)) (spelling (codes "example" ∷ codes "com" ∷ [])) (0 ∷ 1 ∷ 0 ∷ 1 ∷ [])))

-- the query for a name of these digits
abbrev query_of : List ℕ → List ℕ
query_of digits = header 0 0x0100 0 ++ (spelling ((codes "h" ++ digits) ∷ codes "example" ∷ codes "com" ∷ []) ++ 0 ∷ 1 ∷ 0 ∷ 1 ∷ [])

one_is_read : (a : ℕ) → is_misformed (query_of (a ∷ [])) ≡ false
unfolding first_question question_at name_at walk head_at
one_is_read a = refl

two_are_read : (a b : ℕ) → is_misformed (query_of (a ∷ b ∷ [])) ≡ false
unfolding first_question question_at name_at walk head_at
two_are_read a b = refl

pub query_is_read : (host : ℕ) → host < 50 → is_misformed (host_query host) ≡ false
query_is_read host small = elim (cases_lt host 10) [
  | inl h ↦ subst (λ (digits : List ℕ). is_misformed (query_of digits) ≡ false) (sym (decimal_digit host h)) (one_is_read (48 + host))
  | inr h ↦ subst (λ (digits : List ℕ). is_misformed (query_of digits) ≡ false) (sym (two_digits host h small)) (two_are_read (48 + host / 10) (48 + host % 10))
]

pub is_no_refusal : (host : ℕ) (message : List ℕ) → host < 50 → message ≡ host_query host → IsTrue (is_misformed message) → ⊥
is_no_refusal host message small is misformed = false≢true (sym (query_is_read host small) ∙ sym (ap is_misformed is) ∙ misformed)

-- the answer for a name of these digits
abbrev answer_of : List ℕ → List ℕ
answer_of digits = header 0 0x8180 1 ++ (spelling ((codes "h" ++ digits) ∷ codes "example" ∷ codes "com" ∷ []) ++ 0 ∷ 1 ∷ 0 ∷ 1 ∷ []) ++ host_record 0

pub first_answer_fits : (message : List ℕ) → message ≡ host_answer 0 0 → length message < 65536
first_answer_fits message is =
    let size : length message ≡ 48 = ap length is ∙ ap (λ digits. length (answer_of digits)) (decimal_digit 0 (omega arith)) in
    omega arith
