-- A number that is read is written as it stood, and a number that is written is read.
use Rattle.std.proofs.Common.{◌≡◌, ◌<◌, ◌≤◌, ◌^◌, ℕ, Bool, true, false, cond, ◌&&◌, ◌==◌, nat_lt, nat_le, List, [], ◌∷◌, length, get_or, slice_index, Option, Some, None, refl, sym, ap, ◌∙◌, arith, decimal, inl, inr, eq-zero-or-pos}
use Rattle.std.specs.Char.{is_ascii_digit}
use Rattle.std.specs.List.{AllByRecursion}
use Rattle.std.specs.Str.{all_ascii_digits}
use Rattle.std.specs.Str.Parse.{digits_value}
use Rattle.std.proofs.lemmas.Bool.{and_parts, and_cases, and_right, leb-true, ltb-true, ltb-false, eqb-false, ne_eqb}
use Rattle.std.proofs.lemmas.Option.{cond_some, none-some}
use Rattle.std.proofs.lemmas.Fmt.{decimal-digits_value, digits_decimal, decimal_digit, first_decimal}
use Rattle.std.proofs.lemmas.Str.Parse.{IsNumeralModel, numerals_by_value, tells_all_ascii_digits}
use Rattle.dns_values.specs.Decimal.{decimal_number, is_decimal}
use Rattle.dns_values.proofs.Decimals.{decimal_is_read}
use Rattle.dns_script.specs.Reading.{number_of}

own : IsNumeralModel (λ ds. all_ascii_digits ds ≡ true) (digits_value 10)
own = numerals_by_value _ tells_all_ascii_digits

pub kept_unless : {A : Type 0} (b : Bool) (o : Option A) (x : A) → cond b None o ≡ Some x → (b ≡ false) × (o ≡ Some x)
kept_unless true o x e = absurd (none-some _ e)
kept_unless false o x e = (refl, e)

-- what is decimal is digits, one or more, of a number that is at most the greatest
said : (greatest n : ℕ) (word : List ℕ) → decimal_number greatest word ≡ Some n → (0 < length word) × (all_ascii_digits word ≡ true) × (digits_value 10 word ≡ n) × (n ≤ greatest)
unfolding decimal_number
said greatest n word e =
    let is = cond_some (is_decimal greatest word) (digits_value 10 word) n e in
    let parts = and_parts (nat_lt 0 (length word)) (all_ascii_digits word && nat_le (digits_value 10 word) greatest) is.0 in
    let behind = and_parts (all_ascii_digits word) (nat_le (digits_value 10 word) greatest) parts.1 in
    (ltb-true _ _ parts.0, behind.0, is.1, rw (sym is.1) (leb-true _ _ behind.1))

no_leading_zero : (word : List ℕ) → 0 < length word → (nat_lt 1 (length word) && slice_index word 0 == 48) ≡ false → get_or word 0 0 ≡ 48 → length word ≡ 1
no_leading_zero word some e zero =
    elim (and_cases (nat_lt 1 (length word)) (slice_index word 0 == 48) e) [
      | inl short ↦ omega (arith, ltb-false 1 (length word) short)
      | inr other ↦ absurd (eqb-false (slice_index word 0) 48 other zero)
    ]

pub number_is_decimal : (greatest n : ℕ) (word : List ℕ) → greatest < 2 ^ 64 → number_of greatest word ≡ Some n → word ≡ decimal n
unfolding number_of
number_is_decimal greatest n word wide e =
    let kept = kept_unless (nat_lt 1 (length word) && slice_index word 0 == 48) (decimal_number greatest word) n e in
    let it = said greatest n word kept.1 in
    let fits : digits_value 10 word < 2 ^ 64 = omega (arith, it.2, it.3) in
    sym (ap decimal (sym it.2) ∙ decimal-digits_value own word it.1 it.0 (no_leading_zero word it.0 kept.0) fits)

pub number_is_small : (greatest n : ℕ) (word : List ℕ) → number_of greatest word ≡ Some n → n ≤ greatest
unfolding number_of
number_is_small greatest n word e =
    let kept = kept_unless (nat_lt 1 (length word) && slice_index word 0 == 48) (decimal_number greatest word) n e in
    (said greatest n word kept.1).3

no_zero_leads : (n : ℕ) → n < 2 ^ 64 → (nat_lt 1 (length (decimal n)) && slice_index (decimal n) 0 == 48) ≡ false
no_zero_leads n wide =
    elim (eq-zero-or-pos n) [
      | inl zero ↦ rw (zero, decimal_digit 0 (omega arith)) refl
      | inr more ↦ and_right (nat_lt 1 (length (decimal n))) (slice_index (decimal n) 0 == 48) (ne_eqb _ _ (λ e. absurd (omega (arith, e, first_decimal n more wide))))
    ]

pub decimal_is_number : (greatest n : ℕ) → greatest < 2 ^ 64 → n ≤ greatest → number_of greatest (decimal n) ≡ Some n
unfolding number_of
decimal_is_number greatest n wide fits =
    let short : n < 2 ^ 64 = omega arith in
    rw (no_zero_leads n short) (decimal_is_read greatest n short fits)

digits_are_above : (s : ℕ) (ds : List ℕ) → s < 48 → all_ascii_digits ds ≡ true → AllByRecursion (λ o. s < o) ds
digits_are_above s [] low all = tt
digits_are_above s (d ∷ ds) low all =
    let both = and_parts (is_ascii_digit d) (all_ascii_digits ds) all in
    (omega (arith, low, leb-true _ _ (and_parts (nat_le 48 d) (nat_le d 57) both.0).0), digits_are_above s ds low both.1)

-- each digit stands above the blank, the line feed and the dot
pub decimal_is_above : (s n : ℕ) → s < 48 → n < 2 ^ 64 → AllByRecursion (λ o. s < o) (decimal n)
decimal_is_above s n low short = digits_are_above s (decimal n) low (digits_decimal own n short)

pub decimal_is_word : (n : ℕ) → n < 2 ^ 64 → AllByRecursion (λ o. 32 < o) (decimal n)
decimal_is_word n short = decimal_is_above 32 n (omega arith) short
