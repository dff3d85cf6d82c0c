-- The parts of a message are what the readers of its sections meet.
use Rattle.std.proofs.Common.{◌≡◌, ℕ, ◌≤◌, List, [], length, refl, ap, sym, ◌∙◌, subst, inl, inr}
use Rattle.std.specs.Prelude.{Option, Some, None, option_and_then, option_map, nat_lt}
use Rattle.std.proofs.lemmas.Bool.{le-ltb}
use Rattle.dns_names.proofs.Heads.{then_ok, none_some, chosen}
use Rattle.dns_base.specs.Numbers.{u16_at, ◌>>=◌}
use Rattle.dns_base.specs.Header.{counts_of}
use Rattle.dns_base.specs.Message.{Asked, Known, Reading, reads, header_of, all_read, question_at, record_at, list_at, items_at, questions_of, answer_of, authority_of, additional_of, items_behind, answer_items, authority_items, additional_items}
use Rattle.dns_base.specs.Answering.{question_items}
use Rattle.dns_base.specs.ReadingLaws.{ItemsAre, AreCounted, AreEmpty, ReadingLaws}
use Rattle.dns_base.proofs.Lists.{items_are_list, list_length}

abbrev firsts : {A : Type 0} → Option (List A × ℕ) → Option (List A)
firsts o = option_map (λ y. y.0) o

behind : {A : Type 0} → (octets : List ℕ) (count : ℕ) (o : Option (A × ℕ)) → option_and_then all_read (option_map (λ found. items_at (record_at octets) count found.1) o)
    ≡ firsts (o >>= λ before. list_at (record_at octets) count before.1)
behind octets count None = refl
behind octets count (Some x) = items_are_list (record_at octets) count x.1

questions_met : (octets : List ℕ) → all_read (question_items octets) ≡ firsts (questions_of octets)
unfolding questions_of
questions_met octets = items_are_list (question_at octets) (u16_at octets 4) 12

answer_met : (octets : List ℕ) → option_and_then all_read (answer_items octets) ≡ firsts (answer_of octets)
unfolding answer_items answer_of
answer_met octets = behind octets (u16_at octets 6) (questions_of octets)

authority_met : (octets : List ℕ) → option_and_then all_read (authority_items octets) ≡ firsts (authority_of octets)
unfolding authority_items authority_of
authority_met octets = behind octets (u16_at octets 8) (answer_of octets)

additional_met : (octets : List ℕ) → option_and_then all_read (additional_items octets) ≡ firsts (additional_of octets)
unfolding additional_items additional_of
additional_met octets = behind octets (u16_at octets 10) (authority_of octets)

items_are_read : (octets : List ℕ) (r : Reading) → reads octets ≡ Some r → ItemsAre octets r.questions r.answer r.authority r.additional
unfolding reads
items_are_read octets r e = elim (chosen (nat_lt (length octets) 12) None _ (Some r) e) [
  | inl p ↦ none_some p.1
  | inr p ↦
      let q = then_ok (questions_of octets) _ r p.1 in
      let a = then_ok (answer_of octets) _ r q.2 in
      let u = then_ok (authority_of octets) _ r a.2 in
      let d = then_ok (additional_of octets) _ r u.2 in
      let all : Reading = record {
        header = header_of octets;
        counts = counts_of octets;
        questions = q.0.0;
        answer = a.0.0;
        authority = u.0.0;
        additional = d.0.0;
      } in
      let last = d.2 in
      let same : all ≡ r = cc in
      let mine : ItemsAre octets all.questions all.answer all.authority all.additional = record {
        questions_are = questions_met octets ∙ ap firsts q.1;
        answer_is = answer_met octets ∙ ap firsts a.1;
        authority_is = authority_met octets ∙ ap firsts u.1;
        additional_is = additional_met octets ∙ ap firsts d.1;
      } in
      subst (λ (r : Reading). ItemsAre octets r.questions r.answer r.authority r.additional) same mine
]

are_counted : (octets : List ℕ) (r : Reading) → reads octets ≡ Some r → AreCounted r
unfolding reads questions_of answer_of authority_of additional_of
are_counted octets r e = elim (chosen (nat_lt (length octets) 12) None _ (Some r) e) [
  | inl p ↦ none_some p.1
  | inr p ↦
      let q = then_ok (questions_of octets) _ r p.1 in
      let a = then_ok (answer_of octets) _ r q.2 in
      let u = then_ok (authority_of octets) _ r a.2 in
      let d = then_ok (additional_of octets) _ r u.2 in
      let before_a = then_ok (questions_of octets) _ a.0 a.1 in
      let before_u = then_ok (answer_of octets) _ u.0 u.1 in
      let before_d = then_ok (authority_of octets) _ d.0 d.1 in
      let all : Reading = record {
        header = header_of octets;
        counts = counts_of octets;
        questions = q.0.0;
        answer = a.0.0;
        authority = u.0.0;
        additional = d.0.0;
      } in
      let last = d.2 in
      let same : all ≡ r = cc in
      let mine : AreCounted all = record {
        questions = list_length (question_at octets) (u16_at octets 4) 12 q.0 q.1;
        answer = list_length (record_at octets) (u16_at octets 6) before_a.0.1 a.0 before_a.2;
        authority = list_length (record_at octets) (u16_at octets 8) before_u.0.1 u.0 before_u.2;
        additional = list_length (record_at octets) (u16_at octets 10) before_d.0.1 d.0 before_d.2;
      } in
      subst AreCounted same mine
]

first_of : {A : Type 0} → (o : Option (List A × ℕ)) (xs : List A) → firsts o ≡ Some xs → (end : ℕ) × (o ≡ Some (xs, end))
first_of None xs e = none_some e
first_of (Some y) xs e = let same : y.0 ≡ xs = cc in (y.1, ap (λ z. Some (z, y.1)) same)

read_is_items : (octets : List ℕ) (questions : List Asked) (answer authority additional : List Known) → 12 ≤ length octets → ItemsAre octets questions answer authority additional
    → reads octets ≡ Some (record {
      header = header_of octets;
      counts = counts_of octets;
      questions = questions;
      answer = answer;
      authority = authority;
      additional = additional;
    })
unfolding reads
read_is_items octets questions answer authority additional long items =
    let q = first_of (questions_of octets) questions (sym (questions_met octets) ∙ items.questions_are) in
    let a = first_of (answer_of octets) answer (sym (answer_met octets) ∙ items.answer_is) in
    let u = first_of (authority_of octets) authority (sym (authority_met octets) ∙ items.authority_is) in
    let d = first_of (additional_of octets) additional (sym (additional_met octets) ∙ items.additional_is) in
    rw (le-ltb (length octets) 12 long, q.1, a.1, u.1, d.1) refl

none_behind : {A : Type 0} → (octets : List ℕ) (count : ℕ) (o : Option (List A × ℕ)) (xs : List A) → firsts o ≡ Some xs → count ≡ 0 → items_behind octets count o ≡ Some []
unfolding items_at
none_behind octets count None xs e n = none_some e
none_behind octets count (Some x) xs e n = rw n refl

are_empty : (octets : List ℕ) → AreEmpty octets
unfolding answer_items authority_items additional_items
are_empty octets = record {
  answer = λ questions e n. none_behind octets (u16_at octets 6) (questions_of octets) questions (sym (questions_met octets) ∙ e) n;
  authority = λ answer e n. none_behind octets (u16_at octets 8) (answer_of octets) answer (sym (answer_met octets) ∙ e) n;
  additional = λ authority e n. none_behind octets (u16_at octets 10) (authority_of octets) authority (sym (authority_met octets) ∙ e) n;
}

pub reading_laws : ReadingLaws
reading_laws = record { are_empty = are_empty; are_counted = are_counted; items_are_read = items_are_read; read_is_items = read_is_items }
