-- Words that are taken are those that are written of what they say.
use Rattle.std.proofs.Common.{◌≡◌, ℕ, Bool, true, false, cond, nat_lt, length, List, [], ◌∷◌, ◌++◌, Option, Some, None, refl, sym, ap, ◌∙◌, subst, arith, option_map, bytes_eq, decimal, append_assoc}
use Rattle.std.proofs.lemmas.Option.{same_Some, some_pair_parts}
use Rattle.std.proofs.lemmas.Slice.Eq.{bytes_eq-Decides}
use Rattle.dns_names.proofs.Heads.{then_ok, none_some}
use Rattle.client_request.specs.declared.event.Via.{Via}
use Rattle.client_request.specs.declared.fault.Fault.{Fault}
use Rattle.dns_script.specs.Reading.{◌>>=◌, Reader, one_word, named, octets_of}
use Rattle.dns_script.specs.Grammar.{one, two, three, four, u64_at, u32_at, u16_at, octets_at, fault_at, via_at, message_at, message_of}
use Rattle.dns_script.specs.Names.{via_names, fault_names}
use Rattle.dns_script.specs.Words.{hex_word, via_word, fault_word}
use Rattle.dns_script.proofs.Decimals.{kept_unless, number_is_decimal}
use Rattle.dns_script.proofs.HexWords.{octets_are_hex}

-- Behind some words, what a reader takes is what is written of what it gives.
abbrev pub Takes : {A : Type 0} → List (List ℕ) → Reader A → (A → List (List ℕ)) → Type 0
Takes {A} front reader written = (words rest : List (List ℕ)) (x : A) → reader words ≡ Some (x, rest) → front ++ words ≡ written x ++ rest

pub takes_word : {A : Type 0} (f : List ℕ → Option A) (write : A → List ℕ) → ((word : List ℕ) (x : A) → f word ≡ Some x → word ≡ write x)
    → Takes [] (one_word f) (λ x. write x ∷ [])
takes_word f write same [] rest x e = none_some e
takes_word {A} f write same (word ∷ words) rest x e = go (f word) refl e
  where
    go : (o : Option A) → f word ≡ o → option_map {U = A × List (List ℕ)} (λ y. (y, words)) o ≡ Some (x, rest) → word ∷ words ≡ write x ∷ rest
    go None is e = none_some e
    go (Some y) is e =
        let both = some_pair_parts y x words rest e in
        subst (λ z. word ∷ words ≡ write z ∷ rest) both.0 (subst (λ r. word ∷ words ≡ write y ∷ r) both.1 (ap (λ w. w ∷ words) (same word y is)))

pub takes_one : {A X : Type 0} (make : A → X) (first : Reader A) (wrote : A → List (List ℕ)) (front : List (List ℕ)) (written : X → List (List ℕ)) → Takes [] first wrote
    → ((a : A) → written (make a) ≡ front ++ wrote a) → Takes front (one make first) written
takes_one make first wrote front written taken is words rest x e =
    let a = then_ok (first words) _ (x, rest) e in
    let both = some_pair_parts (make a.0.0) x a.0.1 rest a.2 in
    let all : words ≡ wrote a.0.0 ++ rest = taken words rest a.0.0 (a.1 ∙ ap (λ r. Some (a.0.0, r)) both.1) in
    ap (λ ws. front ++ ws) all ∙ sym (append_assoc front (wrote a.0.0) rest) ∙ ap (λ ws. ws ++ rest) (sym (is a.0.0) ∙ ap written both.0)

pub takes_two : {A B X : Type 0} (make : A → B → X) (first : Reader A) (second : Reader B) (wrote : A → List (List ℕ)) (writes : B → List (List ℕ)) (front : List (List ℕ)) (written : X → List (List ℕ))
    → Takes [] first wrote → Takes [] second writes
    → ((a : A) (b : B) → written (make a b) ≡ (front ++ wrote a) ++ writes b) → Takes front (two make first second) written
takes_two make first second wrote writes front written taken takes is words rest x e =
    let a = then_ok (first words) _ (x, rest) e in
    let behind = takes_one (make a.0.0) second writes (front ++ wrote a.0.0) written takes (is a.0.0) a.0.1 rest x a.2 in
    ap (λ ws. front ++ ws) (taken words a.0.1 a.0.0 a.1) ∙ sym (append_assoc front (wrote a.0.0) a.0.1) ∙ behind

pub takes_three : {A B C X : Type 0} (make : A → B → C → X) (first : Reader A) (second : Reader B) (third : Reader C) (wrote : A → List (List ℕ)) (writes : B → List (List ℕ)) (write : C → List (List ℕ))
    (front : List (List ℕ)) (written : X → List (List ℕ)) → Takes [] first wrote → Takes [] second writes → Takes [] third write
    → ((a : A) (b : B) (c : C) → written (make a b c) ≡ ((front ++ wrote a) ++ writes b) ++ write c) → Takes front (three make first second third) written
takes_three make first second third wrote writes write front written taken takes take is words rest x e =
    let a = then_ok (first words) _ (x, rest) e in
    let behind = takes_two (make a.0.0) second third writes write (front ++ wrote a.0.0) written takes take (is a.0.0) a.0.1 rest x a.2 in
    ap (λ ws. front ++ ws) (taken words a.0.1 a.0.0 a.1) ∙ sym (append_assoc front (wrote a.0.0) a.0.1) ∙ behind

pub takes_four : {A B C D X : Type 0} (make : A → B → C → D → X) (first : Reader A) (second : Reader B) (third : Reader C) (fourth : Reader D)
    (wrote : A → List (List ℕ)) (writes : B → List (List ℕ)) (write : C → List (List ℕ)) (wrought : D → List (List ℕ))
    (front : List (List ℕ)) (written : X → List (List ℕ)) → Takes [] first wrote → Takes [] second writes → Takes [] third write → Takes [] fourth wrought
    → ((a : A) (b : B) (c : C) (d : D) → written (make a b c d) ≡ (((front ++ wrote a) ++ writes b) ++ write c) ++ wrought d) → Takes front (four make first second third fourth) written
takes_four make first second third fourth wrote writes write wrought front written taken takes take took is words rest x e =
    let a = then_ok (first words) _ (x, rest) e in
    let behind = takes_three (make a.0.0) second third fourth writes write wrought (front ++ wrote a.0.0) written takes take took (is a.0.0) a.0.1 rest x a.2 in
    ap (λ ws. front ++ ws) (taken words a.0.1 a.0.0 a.1) ∙ sym (append_assoc front (wrote a.0.0) a.0.1) ∙ behind

-- Each entry stands in a relation.
abbrev pub AreNamed : {A : Type 0} → (List ℕ → A → Type 0) → List (List ℕ × A) → Type 0
AreNamed Named [] = Unit {0}
AreNamed Named (entry ∷ entries) = Named entry.0 entry.1 × AreNamed Named entries

pub named_is : {A : Type 0} (Named : List ℕ → A → Type 0) (names : List (List ℕ × A)) → AreNamed Named names → (word : List ℕ) (x : A) → named names word ≡ Some x → Named word x
named_is Named [] all word x e = none_some e
named_is {A} Named (entry ∷ entries) all word x e = go (bytes_eq word entry.0) refl e (λ f. named_is Named entries all.1 word x f)
  where
    go : (b : Bool) → bytes_eq word entry.0 ≡ b → cond b (Some entry.1) (named entries word) ≡ Some x → (named entries word ≡ Some x → Named word x) → Named word x
    go true is e more = subst (λ w. Named w x) (sym ((bytes_eq-Decides word entry.0).0 is)) (subst (λ y. Named entry.0 y) (same_Some _ _ e) all.0)
    go false is e more = more e

-- a name, and what stands behind it
pub takes_named : {N A : Type 0} (names : List (List ℕ × N)) (write : N → List ℕ) (behind : N → Reader A) (written : A → List (List ℕ)) → AreNamed (λ word n. word ≡ write n) names
    → ((n : N) → Takes (write n ∷ []) (behind n) written) → Takes [] (λ words. one_word (named names) words >>= (λ name. behind name.0 name.1)) written
takes_named names write behind written all takes words rest x e =
    let name = then_ok (one_word (named names) words) _ (x, rest) e in
    takes_word (named names) write (named_is (λ word n. word ≡ write n) names all) words name.0.1 name.0.0 name.1 ∙ takes name.0.0 name.0.1 rest x name.2

-- a reader that takes nothing
pub takes_nothing : {A : Type 0} (made : A) (front : List (List ℕ)) (written : A → List (List ℕ)) → written made ≡ front → Takes front (λ words. Some (made, words)) written
takes_nothing made front written is words rest x e =
    let both = some_pair_parts made x words rest e in
    subst (λ y. front ++ words ≡ written y ++ rest) both.0 (subst (λ r. front ++ words ≡ written made ++ r) both.1 (ap (λ ws. ws ++ words) (sym is)))

fault_is : (word : List ℕ) (f : Fault) → named fault_names word ≡ Some f → word ≡ fault_word f
fault_is word f e = named_is (λ w f. w ≡ fault_word f) fault_names (refl, (refl, (refl, (refl, (refl, (refl, (refl, (refl, (refl, (refl, tt)))))))))) word f e

via_is : (word : List ℕ) (v : Via) → named via_names word ≡ Some v → word ≡ via_word v
via_is word v e = named_is (λ w v. w ≡ via_word v) via_names (refl, (refl, tt)) word v e

pub takes_u64 : Takes [] u64_at (λ n. decimal n ∷ [])
takes_u64 = takes_word _ decimal (λ word n e. number_is_decimal 18446744073709551615 n word (omega arith) e)

pub takes_u32 : Takes [] u32_at (λ n. decimal n ∷ [])
takes_u32 = takes_word _ decimal (λ word n e. number_is_decimal 4294967295 n word (omega arith) e)

pub takes_u16 : Takes [] u16_at (λ n. decimal n ∷ [])
takes_u16 = takes_word _ decimal (λ word n e. number_is_decimal 65535 n word (omega arith) e)

pub takes_octets : Takes [] octets_at (λ octets. hex_word octets ∷ [])
takes_octets = takes_word _ hex_word octets_are_hex

pub takes_fault : Takes [] fault_at (λ f. fault_word f ∷ [])
takes_fault = takes_word _ fault_word fault_is

pub takes_via : Takes [] via_at (λ v. via_word v ∷ [])
takes_via = takes_word _ via_word via_is

message_is : (word octets : List ℕ) → message_of word ≡ Some octets → word ≡ hex_word octets
message_is word octets e =
    let read = then_ok (octets_of word) _ octets e in
    let long = kept_unless (nat_lt (length read.0) 12) (Some read.0) octets read.2 in
    octets_are_hex word octets (read.1 ∙ long.1)

pub takes_message : Takes [] message_at (λ octets. hex_word octets ∷ [])
takes_message = takes_word _ hex_word message_is
