-- What a message with the name spelled out asks.
use Rattle.std.proofs.Common.{◌≡◌, ℕ, ◌+◌, List, [], ◌∷◌, ◌++◌, refl, ap, sym, ◌∙◌, arith, append-nil, Bool, true, false, ◌==◌, ◌||◌, ◌&&◌}
use Rattle.std.specs.Prelude.{Option, Some, None, IsSome, option_and_then}
use Rattle.std.specs.Option.{option_map_or}
use Rattle.std.specs.Int.{w16, to_be_bytes}
use Rattle.dns_names.specs.Name.{spelling, octet_count}
use Rattle.dns_names.proofs.NameLaws.{spelled_length}
use Rattle.dns_base.specs.Holding.{IsAskable}
use Rattle.dns_base.specs.Message.{Asked, Known, additional_items, answer_of, authority_of, first_question, items_at, items_behind, list_at, question_at, questions_of}
use Rattle.dns_base.specs.Numbers.{u16_at}
use Rattle.dns_base.specs.OptRecord.{first_opt, opt_of}
use Rattle.dns_base.proofs.EntriesBack.{question_found}
use Rattle.dns_base.proofs.Stands.{Stands, first_stands, second_stands, stands_within, number_stands, name_stands}
use Rattle.client_request.specs.Request.{is_misformed}
use Rattle.front_queries.specs.Query.{Query, is_of_zone}
use Rattle.front_queries.specs.Refusals.{is_question_alone}
use Rattle.front_queries.specs.Requests.{request_of}
use Rattle.front_queries.specs.Spelled.{counts_octets, spelled}

-- the twelve octets before the question
abbrev head : (a b c d : ℕ) → List ℕ
head a b c d = a ∷ b ∷ c ∷ d ∷ counts_octets 1 0

question_is : (a b c d : ℕ) (q : Asked) → IsAskable q → question_at (spelled (a ∷ b ∷ c ∷ d ∷ []) q None) 12 ≡ Some (q, 12 + octet_count q.name + 4)
question_is a b c d q h =
    let octets : List ℕ = spelled (a ∷ b ∷ c ∷ d ∷ []) q None in
    let name : List ℕ = spelling q.name in
    let types : List ℕ = to_be_bytes w16 q.rtype in
    let class : List ℕ = to_be_bytes w16 q.class in
    let end : ℕ = 12 + octet_count q.name in
    let all : Stands octets 12 (name ++ (types ++ class)) = record { front = head a b c d; back = []; is = ap (λ z. head a b c d ++ z) (sym (append-nil (name ++ (types ++ class)))); long = refl } in
    let s1 = first_stands octets name (types ++ class) 12 all in
    let behind = second_stands octets name (types ++ class) 12 end all (ap (λ n. 12 + n) (spelled_length q.name)) in
    let s2 = first_stands octets types class end behind in
    let s3 = second_stands octets types class end (end + 2) behind refl in
    let within = stands_within octets class (end + 2) s3 in
    question_found octets 12 end 0 q (name_stands octets q.name 12 s1 h.name) (omega (arith, within))
    (number_stands octets q.rtype end s2 h.rtype) (number_stands octets q.class (end + 2) s3 h.class)

first_is : (a b c d : ℕ) (q : Asked) → IsAskable q → first_question (spelled (a ∷ b ∷ c ∷ d ∷ []) q None) ≡ Some q
unfolding first_question
first_is a b c d q h = rw (question_is a b c d q h) refl

or-right : (a b : Bool) → (a || b) ≡ false → b ≡ false
or-right true b e = absurd (cc)
or-right false b e = e

and-false : (a b : Bool) → b ≡ false → (a && b) ≡ false
and-false true b e = e
and-false false b e = refl

well_formed : (a b c d : ℕ) (q : Asked) → IsAskable q → is_of_zone q.rtype ≡ false → is_misformed (spelled (a ∷ b ∷ c ∷ d ∷ []) q None) ≡ false
well_formed a b c d q h zone =
    and-false _ _ (ap (λ (o : Option Asked). option_map_or (λ q. q.rtype == 252) o true) (first_is a b c d q h) ∙ or-right (q.rtype == 251) (q.rtype == 252) zone)

-- A query that is taken may be asked.
pub may_be_asked : (q : Query) → IsAskable q.asked → is_of_zone q.asked.rtype ≡ false → is_misformed (request_of q).base ≡ false
may_be_asked q h zone = well_formed _ _ _ _ q.asked h zone

-- A query that counts no record in its additional section has no OPT record.
pub none_counted : (m : List ℕ) → u16_at m 10 ≡ 0 → opt_of m ≡ None
unfolding opt_of additional_items items_at
none_counted m none = go (authority_of m)
  where
    go : (before : Option (List Known × ℕ)) → option_and_then first_opt (items_behind m (u16_at m 10) before) ≡ None
    go None = refl
    go (Some x) = rw none refl

-- Where the first question is read, nothing but that stands in a query that counts one question and no record.
pub alone : (m : List ℕ) → IsSome (first_question m) → u16_at m 4 ≡ 1 → u16_at m 6 ≡ 0 → u16_at m 8 ≡ 0 → u16_at m 10 ≡ 0 → is_question_alone m ≡ true
unfolding first_question questions_of answer_of authority_of additional_items list_at items_at
alone m read one answer authority additional = go (question_at m 12) refl
  where
    go : (found : Option (Asked × ℕ)) → question_at m 12 ≡ found → is_question_alone m ≡ true
    go None e = let h = rw (one, e) at read in absurd cc
    go (Some x) e = rw (one, answer, authority, additional, e) refl
