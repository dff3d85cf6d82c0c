-- Octets that are read are written as they stood, and octets that are written are read.
use Rattle.std.proofs.Common.{◌≡◌, ◌<◌, ◌≤◌, ◌+◌, ◌-◌, ◌*◌, ◌/◌, ◌%◌, ◌^◌, ℕ, Bool, true, false, cond, not, ◌&&◌, ◌==◌, nat_lt, nat_le, List, [], ◌∷◌, ◌++◌, length, get_or, Option, Some, None, codes, refl, sym, ap, ap₂, ◌∙◌, subst, arith, inl, inr, option_map, bytes_eq}
use Rattle.std.specs.Char.{digit_char, is_ascii_digit}
use Rattle.std.specs.List.{AllByRecursion, flat_map}
use Rattle.std.proofs.lemmas.Bool.{and_parts, and_from, and_right, leb-true, le-leb, ltb-true, ltb-false, lt-ltb, le-ltb, cases_lt, cond-true, cond-false, not_from_false, ne_eqb, false_from_ne_true, true≢false}
use Rattle.std.proofs.lemmas.Option.{cond_some, none-some, option_and_then_some, same_Some}
use Rattle.std.proofs.lemmas.Slice.Eq.{bytes_eq-Decides}
use Rattle.dns_script.specs.Reading.{digit_of, octet_of, octets_of, pairs}
use Rattle.dns_script.proofs.Decimals.{kept_unless}
use Rattle.dns_script.specs.Words.{octet_digits, hex_word}

small_digit : (d v : ℕ) → is_ascii_digit d ≡ true → d - 48 ≡ v → (d ≡ digit_char v) × (v < 16)
small_digit d v is e =
    let range = and_parts (nat_le 48 d) (nat_le d 57) is in
    let low : 48 ≤ d = leb-true _ _ range.0 in
    let high : d ≤ 57 = leb-true _ _ range.1 in
    (sym (cond-true (nat_lt v 10) (48 + v) (87 + v) (lt-ltb _ _ (omega arith)) ∙ (omega arith)), omega arith)

great_digit : (d v : ℕ) → cond (not (nat_lt d 97) && nat_lt d 103) (Some (d - 87)) None ≡ Some v → (d ≡ digit_char v) × (v < 16)
great_digit d v e =
    let found = cond_some (not (nat_lt d 97) && nat_lt d 103) (d - 87) v e in
    let range = and_parts (not (nat_lt d 97)) (nat_lt d 103) found.0 in
    let low : 97 ≤ d = ltb-false _ _ (false_from_not (nat_lt d 97) range.0) in
    let high : d < 103 = ltb-true _ _ range.1 in
    let is = found.1 in
    (sym (cond-false (nat_lt v 10) (48 + v) (87 + v) (le-ltb _ _ (omega arith)) ∙ (omega arith)), omega arith)
  where
    false_from_not : (b : Bool) → not b ≡ true → b ≡ false
    false_from_not true e = sym e
    false_from_not false e = refl

digit_says : (d v : ℕ) → digit_of d ≡ Some v → (d ≡ digit_char v) × (v < 16)
digit_says d v e = go (is_ascii_digit d) refl e
  where
    go : (b : Bool) → is_ascii_digit d ≡ b → cond b (Some (d - 48)) (cond (not (nat_lt d 97) && nat_lt d 103) (Some (d - 87)) None) ≡ Some v → (d ≡ digit_char v) × (v < 16)
    go true is e = small_digit d v is (same_Some _ _ e)
    go false is e = great_digit d v e

digit_is_read : (v : ℕ) → v < 16 → digit_of (digit_char v) ≡ Some v
digit_is_read v small =
    elim (cases_lt v 10) [
      | inl lt ↦
          rw (lt-ltb v 10 lt, and_from (nat_le 48 (48 + v)) (nat_le (48 + v) 57) (le-leb _ _ (omega arith)) (le-leb _ _ (omega arith))) (ap Some (omega arith))
      | inr le ↦
          rw (le-ltb v 10 le, and_right (nat_le 48 (87 + v)) (nat_le (87 + v) 57) (lt-leb-no _ _ (omega arith)), and_from (not (nat_lt (87 + v) 97)) (nat_lt (87 + v) 103) (not_from_false _ (le-ltb _ _ (omega arith))) (lt-ltb _ _ (omega arith))) (ap Some (omega arith))
    ]
  where
    lt-leb-no : (a b : ℕ) → b < a → nat_le a b ≡ false
    lt-leb-no a b h = false_from_ne_true (nat_le a b) (λ e. absurd (omega (arith, h, leb-true a b e)))

octet_says : (high low octet : ℕ) → octet_of high low ≡ Some octet → (high ∷ low ∷ [] ≡ octet_digits octet) × (octet < 2 ^ 8)
octet_says high low octet e =
    option_and_then_some (λ h. option_map (λ l. 16 * h + l) (digit_of low)) (digit_of high) octet e (λ h first more. go h first (digit_of low) refl more)
  where
    go : (h : ℕ) → digit_of high ≡ Some h → (o : Option ℕ) → digit_of low ≡ o → option_map (λ l. 16 * h + l) o ≡ Some octet → (high ∷ low ∷ [] ≡ octet_digits octet) × (octet < 2 ^ 8)
    go h first None second e = absurd (none-some _ e)
    go h first (Some l) second e =
        let top = digit_says high h first in
        let end = digit_says low l second in
        let small = top.1 in
        let little = end.1 in
        let is : 16 * h + l ≡ octet = same_Some _ _ e in
        let quotient : octet / 16 ≡ h = omega arith in
        let remainder : octet % 16 ≡ l = omega arith in
        (rw (quotient, remainder, sym top.0, sym end.0) refl, omega arith)

octet_is_read : (octet : ℕ) → octet < 2 ^ 8 → octet_of (digit_char (octet / 16)) (digit_char (octet % 16)) ≡ Some octet
octet_is_read octet small =
    rw (digit_is_read (octet / 16) (omega arith), digit_is_read (octet % 16) (omega arith)) (ap Some (omega arith))

one_more : (high low octet : ℕ) (word octets : List ℕ) → octet_of high low ≡ Some octet → ((others : List ℕ) → pairs word ≡ Some others → (word ≡ flat_map octet_digits others) × AllByRecursion (λ o. o < 2 ^ 8) others)
    → (o : Option (List ℕ)) → pairs word ≡ o → option_map (λ octets. octet ∷ octets) o ≡ Some octets → (high ∷ low ∷ word ≡ flat_map octet_digits octets) × AllByRecursion (λ o. o < 2 ^ 8) octets
one_more high low octet word octets first say None rest e = absurd (none-some _ e)
one_more high low octet word octets first say (Some others) rest e =
    let one = octet_says high low octet first in
    let more = say others rest in
    let is : octet ∷ others ≡ octets = same_Some _ _ e in
    subst (λ os. (high ∷ low ∷ word ≡ flat_map octet_digits os) × AllByRecursion (λ o. o < 2 ^ 8) os) is (ap₂ ◌++◌ one.0 more.0, (one.1, more.1))

pub pairs_say : (word octets : List ℕ) → pairs word ≡ Some octets → (word ≡ flat_map octet_digits octets) × AllByRecursion (λ o. o < 2 ^ 8) octets
pairs_say [] [] e = (refl, tt)
pairs_say [] (o ∷ octets) e = absurd cc
pairs_say (high ∷ []) octets e = absurd (none-some _ e)
pairs_say (high ∷ low ∷ word) octets e =
    option_and_then_some (λ octet. option_map (λ octets. octet ∷ octets) (pairs word)) (octet_of high low) octets e
    (λ octet first more. one_more high low octet word octets first (λ others rest. pairs_say word others rest) (pairs word) refl more)

pub digits_are_pairs : (octets : List ℕ) → AllByRecursion (λ o. o < 2 ^ 8) octets → pairs (flat_map octet_digits octets) ≡ Some octets
digits_are_pairs [] all = refl
digits_are_pairs (octet ∷ octets) all = rw (octet_is_read octet all.0, digits_are_pairs octets all.1) refl

digits_are_hex : (word octets : List ℕ) → (length word == 0) ≡ false → word ≡ flat_map octet_digits octets → word ≡ hex_word octets
digits_are_hex word [] some e = absurd (true≢false (subst (λ w. (length w == 0) ≡ false) e some))
digits_are_hex word (octet ∷ octets) some e = e

pub octets_say : (word octets : List ℕ) → octets_of word ≡ Some octets → (word ≡ hex_word octets) × AllByRecursion (λ o. o < 2 ^ 8) octets
unfolding octets_of
octets_say word octets e = go (bytes_eq word (codes "-")) refl e
  where
    go : (b : Bool) → bytes_eq word (codes "-") ≡ b → cond b (Some []) (cond (length word == 0) None (pairs word)) ≡ Some octets → (word ≡ hex_word octets) × AllByRecursion (λ o. o < 2 ^ 8) octets
    go true is e =
        let none : [] ≡ octets = same_Some _ _ e in
        subst (λ os. (word ≡ hex_word os) × AllByRecursion (λ o. o < 2 ^ 8) os) none ((bytes_eq-Decides word (codes "-")).0 is, tt)
    go false is e =
        let kept = kept_unless (length word == 0) (pairs word) octets e in
        let said = pairs_say word octets kept.1 in
        (digits_are_hex word octets kept.0 said.0, said.1)

pub octets_are_hex : (word octets : List ℕ) → octets_of word ≡ Some octets → word ≡ hex_word octets
octets_are_hex word octets e = (octets_say word octets e).0

digit_is_high : (v : ℕ) → 47 < digit_char v
digit_is_high v = elim (cases_lt v 10) [
  | inl lt ↦ rw (lt-ltb v 10 lt) (omega arith)
  | inr le ↦ rw (le-ltb v 10 le) (omega arith)
]

no_hyphen : (d : ℕ) (more : List ℕ) → 47 < d → bytes_eq (d ∷ more) (codes "-") ≡ false
no_hyphen d more high = false_from_ne_true (bytes_eq (d ∷ more) (codes "-")) (λ is.
    let same : d ≡ 45 = ap (λ ds. get_or ds 0 0) ((bytes_eq-Decides (d ∷ more) (codes "-")).0 is) in
    absurd (omega (arith, high, same)))

pub hex_is_octets : (octets : List ℕ) → AllByRecursion (λ o. o < 2 ^ 8) octets → octets_of (hex_word octets) ≡ Some octets
unfolding octets_of
hex_is_octets [] all = refl
hex_is_octets (octet ∷ octets) all =
    let some : (length (hex_word (octet ∷ octets)) == 0) ≡ false = ne_eqb _ _ (λ e. absurd (omega (arith, e))) in
    rw (no_hyphen (digit_char (octet / 16)) (digit_char (octet % 16) ∷ flat_map octet_digits octets) (digit_is_high (octet / 16)), some) (digits_are_pairs (octet ∷ octets) all)

digit_is_of_word : (v : ℕ) → 32 < digit_char v
digit_is_of_word v = omega (arith, digit_is_high v)

pub digits_are_word : (octets : List ℕ) → AllByRecursion (λ o. 32 < o) (flat_map octet_digits octets)
digits_are_word [] = tt
digits_are_word (octet ∷ octets) = (digit_is_of_word (octet / 16), (digit_is_of_word (octet % 16), digits_are_word octets))

pub hex_is_word : (octets : List ℕ) → AllByRecursion (λ o. 32 < o) (hex_word octets)
hex_is_word [] = (omega arith, tt)
hex_is_word (octet ∷ octets) = digits_are_word (octet ∷ octets)
