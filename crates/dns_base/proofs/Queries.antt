-- The message of a question: its octets, and what is read of them.
use Rattle.std.proofs.Common.{◌≡◌, ℕ, ◌+◌, ◌<◌, ◌≤◌, ◌^◌, List, [], ◌∷◌, ◌++◌, length, refl, ap, sym, ◌∙◌, arith, length-append, append-nil, false, nat_lt, Some, Result, Ok, Err, IfOk}
use Rattle.std.specs.Int.{w16, to_be_bytes}
use Rattle.std.proofs.lemmas.Bool.{le-ltb}
use Rattle.dns_names.specs.Name.{Labels, spelling, octet_count, IsLegal}
use Rattle.dns_names.proofs.NameLaws.{spelled_length}
use Rattle.dns_base.specs.Compression.{Compressed, name_octets, with_name, with_octets, with_question}
use Rattle.dns_base.specs.Draft.{finished, fresh, pushed_question, with_header}
use Rattle.dns_base.specs.Holding.{IsAskable}
use Rattle.dns_base.specs.Message.{Asked, list_at, question_at, questions_of, answer_of, authority_of, additional_of, reads}
use Rattle.dns_base.specs.Query.{query_draft, query_octets, query_reading}
use Rattle.dns_base.specs.Sections.{counts_spelling}
use Rattle.dns_base.proofs.EntriesBack.{question_found}
use Rattle.dns_base.proofs.Stands.{Stands, first_stands, second_stands, stands_within, number_stands, name_stands}

-- the twelve octets before the question
abbrev head : List ℕ
head = 0 ∷ 0 ∷ 1 ∷ 0 ∷ 0 ∷ 1 ∷ 0 ∷ 0 ∷ 0 ∷ 0 ∷ 0 ∷ 0 ∷ []

-- Where no name stands yet a name is spelled out.
spelled_out : (octets : List ℕ) (labels : Labels) → name_octets (record { octets = octets; places = [] }) labels ≡ spelling labels
spelled_out octets [] = refl
spelled_out octets (label ∷ labels) = ap (λ rest. length label ∷ label ++ rest) (spelled_out octets labels)

pub query_is : (name : Labels) (rtype : ℕ) → query_draft name rtype ≡ query_octets name rtype
unfolding finished pushed_question with_header fresh with_question with_name with_octets counts_spelling
query_is name rtype =
    ap (λ spelled. head ++ ((spelled ++ to_be_bytes w16 rtype) ++ to_be_bytes w16 1)) (spelled_out (0 ∷ 0 ∷ 1 ∷ 0 ∷ 0 ∷ 0 ∷ 0 ∷ 0 ∷ 0 ∷ 0 ∷ 0 ∷ 0 ∷ []) name)

question_is : (name : Labels) (rtype : ℕ) → IsLegal name → rtype < 2 ^ 16
    → question_at (query_octets name rtype) 12 ≡ Some (record { name = name; rtype = rtype; class = 1 }, 12 + octet_count name + 4)
question_is name rtype legal small =
    let octets : List ℕ = query_octets name rtype in
    let spelled : List ℕ = spelling name in
    let types : List ℕ = to_be_bytes w16 rtype in
    let class : List ℕ = to_be_bytes w16 1 in
    let end : ℕ = 12 + octet_count name in
    let all : Stands octets 12 ((spelled ++ types) ++ class) = record { front = head; back = []; is = ap (λ z. head ++ z) (sym (append-nil ((spelled ++ types) ++ class))); long = refl } in
    let front = first_stands octets (spelled ++ types) class 12 all in
    let s1 = first_stands octets spelled types 12 front in
    let s2 = second_stands octets spelled types 12 end front (ap (λ n. 12 + n) (spelled_length name)) in
    let s3 = second_stands octets (spelled ++ types) class 12 (end + 2) all (omega (arith, length-append spelled types, spelled_length name)) in
    let within = stands_within octets class (end + 2) s3 in
    let asked : Asked = record { name = name; rtype = rtype; class = 1 } in
    question_found octets 12 end 0 asked (name_stands octets name 12 s1 legal) (omega (arith, within))
    (number_stands octets rtype end s2 small) (number_stands octets 1 (end + 2) s3 (omega arith))

pub query_reads : (name : Labels) (rtype : ℕ) → IsLegal name → rtype < 2 ^ 16 → reads (query_octets name rtype) ≡ Some (query_reading name rtype)
unfolding reads questions_of answer_of authority_of additional_of list_at
query_reads name rtype legal small =
    let long : nat_lt (length (query_octets name rtype)) 12 ≡ false = le-ltb _ _ (omega arith) in
    rw (long, question_is name rtype legal small) refl

pub query_says : {E : Type 0} (r : Result (List ℕ) E) (name : Labels) (rtype : ℕ) → IsAskable (record { name = name; rtype = rtype; class = 1 }) → IfOk r (λ m. m ≡ query_draft name rtype)
    → IfOk r (λ m. reads m ≡ Some (query_reading name rtype))
query_says (Ok m) name rtype askable e = ap reads (e ∙ query_is name rtype) ∙ query_reads name rtype askable.name askable.rtype
query_says (Err x) name rtype askable e = tt
