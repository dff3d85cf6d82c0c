-- How many octets an answer by a datagram has.
use Rattle.std.proofs.Common.{◌≡◌, ℕ, ◌+◌, ◌≤◌, Bool, true, false, List, ◌++◌, length, drop, refl, arith, length-append, length-set, length-take, length-drop}
use Rattle.std.specs.Prelude.{max, nat_le, Option, Some, None, Ok, Err, if◌then◌else◌, option_map}
use Rattle.std.specs.Int.{w16, to_be_bytes}
use Rattle.std.proofs.lemmas.Bool.Decides.{nat_tests}
use Rattle.dns_base.specs.Header.{id_of, with_id, with_tc}
use Rattle.dns_base.specs.Message.{Asked, header_of}
use Rattle.dns_names.specs.Name.{spelling}
use Rattle.front_queries.specs.Answers.{answer_of, cut, failed, fitting, high_bits, is_cut, most_octets, truncated}
use Rattle.front_queries.specs.Query.{Query}
use Rattle.front_queries.specs.Spelled.{counts_octets, opt_octets, own_opt, question_octets, spelled}
use Rattle.front_queries.specs.declared.query.Extension.{Extension}
use Rattle.proof_forwarding.specs.Sizes.{DatagramAnswersAreShort}

two : (n : ℕ) → length (to_be_bytes w16 n) ≡ 2
two n = refl

opt_size : (high : ℕ) (dnssec : Bool) → length (opt_octets (own_opt high dnssec)) ≡ 11
unfolding opt_octets
opt_size high dnssec = refl

question_size : (q : Asked) → length (question_octets q) ≡ length (spelling q.name) + 4
question_size q = length-append (spelling q.name) (to_be_bytes w16 q.rtype ++ to_be_bytes w16 q.class)

module _ (header : List ℕ) (q : Asked) (high : ℕ) (short : length header ≤ 4) where
  bare_size : length (spelled header q None) ≤ 27 + length (spelling q.name)
  bare_size =
      let all = length-append header (counts_octets 1 0 ++ question_octets q) in
      let more = length-append (counts_octets 1 0) (question_octets q) in
      let counts : length (counts_octets 1 0) ≡ 8 = refl in
      let asked = question_size q in
      omega arith

  with_opt_size : (dnssec : Bool) → length (spelled header q (Some (own_opt high dnssec))) ≤ 27 + length (spelling q.name)
  with_opt_size dnssec =
      let all = length-append header (counts_octets 1 1 ++ (question_octets q ++ opt_octets (own_opt high dnssec))) in
      let more = length-append (counts_octets 1 1) (question_octets q ++ opt_octets (own_opt high dnssec)) in
      let counts : length (counts_octets 1 1) ≡ 8 = refl in
      let rest = length-append (question_octets q) (opt_octets (own_opt high dnssec)) in
      let asked = question_size q in
      let opt = opt_size high dnssec in
      omega arith

  spelled_size : (e : Option Extension) → length (spelled header q (option_map (λ (x : Extension). own_opt high x.dnssec_ok) e)) ≤ 27 + length (spelling q.name)
  spelled_size None = bare_size
  spelled_size (Some x) = with_opt_size x.dnssec_ok

header_size : (octets : List ℕ) → length (header_of octets) ≤ 4
header_size octets = let four = length-take 4 octets in omega arith

truncated_size : (q : Query) (answer : List ℕ) → length (truncated q answer) ≤ 27 + length (spelling q.asked.name)
truncated_size q answer =
    let same : length (with_tc true (header_of answer)) ≡ length (header_of answer) = length-set (header_of answer) 2 _ in
    let short = header_size answer in
    spelled_size (with_tc true (header_of answer)) q.asked (high_bits answer) (omega arith) q.extension

cut_size : (q : Query) (reply : List ℕ) → length (cut q reply) ≤ 27 + length (spelling q.asked.name)
cut_size q reply =
    let same : length (with_tc true (with_id (id_of q.header) (header_of reply))) ≡ length (with_id (id_of q.header) (header_of reply)) = length-set (with_id (id_of q.header) (header_of reply)) 2 _ in
    let parts = length-append (to_be_bytes w16 (id_of q.header)) (drop 2 (header_of reply)) in
    let id = two (id_of q.header) in
    let left = length-drop 2 (header_of reply) in
    let short = header_size reply in
    spelled_size (with_tc true (with_id (id_of q.header) (header_of reply))) q.asked (high_bits reply) (omega arith) q.extension

most_size : (q : Query) → most_octets q ≤ 1232
most_size q = omega arith

fitting_size : (q : Query) (answer : List ℕ) → length (fitting q answer) ≤ max 1232 (27 + length (spelling q.asked.name))
fitting_size q answer = go (nat_le (length answer) (most_octets q)) refl
  where
    fits : nat_le (length answer) (most_octets q) ≡ true → length answer ≤ most_octets q
    fits is = grind (arith, nat_tests)

    go : (b : Bool) → nat_le (length answer) (most_octets q) ≡ b → length (if b then answer else truncated q answer) ≤ max 1232 (27 + length (spelling q.asked.name))
    go true is = let low = fits is in let most = most_size q in omega arith
    go false is = let few = truncated_size q answer in omega arith

by_datagram_size : (q : Query) (m : List ℕ) (b : Bool) → length (if b then cut q m else fitting q (answer_of q (Ok m))) ≤ max 1232 (27 + length (spelling q.asked.name))
by_datagram_size q m true = let few = cut_size q m in omega arith
by_datagram_size q m false = fitting_size q (answer_of q (Ok m))

pub datagram_answers_are_short : DatagramAnswersAreShort
datagram_answers_are_short q (Ok m) = by_datagram_size q m (is_cut q m)
datagram_answers_are_short q (Err e) = fitting_size q (failed q)
