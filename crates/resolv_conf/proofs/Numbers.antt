-- What `parse` reads as a number.
use Rattle.std.proofs.Common.{◌≡◌, ◌<◌, ◌^◌, ℕ, Bool, true, false, List, [], ◌∷◌, length, refl, ap, sym, ◌∙◌, arith, Some, None, Result, Ok, Err, ◌&&◌, nat_lt, if◌then◌else◌}
use Rattle.std.proofs.lemmas.Bool.Decides.{nat_tests}
use Rattle.std.specs.Result.{result_ok, OkIff}
use Rattle.std.specs.Char.{digit_value, is_ascii_digit}
use Rattle.std.specs.Str.{all_ascii_digits}
use Rattle.std.specs.Str.Parse.{digits_value, without_leading_plus, ParsesUnsigned, IsNumeral, AllDigits}
use Rattle.resolv_conf.specs.Number.{number_of, is_number}

digit_is : (c : ℕ) → is_ascii_digit c ≡ nat_lt (digit_value c) 10
digit_is c = grind (arith, nat_tests)

digit_below : (c : ℕ) → is_ascii_digit c ≡ true → digit_value c < 10
digit_below c e = let f : nat_lt (digit_value c) 10 ≡ true = sym (digit_is c) ∙ e in grind (arith, nat_tests)

digit_from : (c : ℕ) → digit_value c < 10 → is_ascii_digit c ≡ true
digit_from c h = digit_is c ∙ grind (arith, nat_tests)

digits_told : (ds : List ℕ) → all_ascii_digits ds ≡ true → AllDigits 10 ds
digits_told [] e = tt
digits_told (c ∷ cs) e = (digit_below c (grind (arith, nat_tests)), digits_told cs (grind (arith, nat_tests)))

digits_from : (ds : List ℕ) → AllDigits 10 ds → all_ascii_digits ds ≡ true
digits_from [] h = refl
digits_from (c ∷ cs) h = let a = digit_from c h.0 in let b = digits_from cs h.1 in grind (arith, nat_tests)

numeral_told : (ds : List ℕ) (most : ℕ) → (nat_lt 0 (length ds) && all_ascii_digits ds && nat_lt (digits_value 10 ds) most) ≡ true → IsNumeral 10 ds × (digits_value 10 ds < most)
numeral_told ds most e = ((grind (arith, nat_tests), digits_told ds (grind (arith, nat_tests))), grind (arith, nat_tests))

numeral_from : (ds : List ℕ) (most : ℕ) → IsNumeral 10 ds → digits_value 10 ds < most → (nat_lt 0 (length ds) && all_ascii_digits ds && nat_lt (digits_value 10 ds) most) ≡ true
numeral_from ds most h f = let a = digits_from ds h.1 in let b : 0 < length ds = h.0 in grind (arith, nat_tests)

chosen : {E : Type 0} (b : Bool) (n : ℕ) (r : Result ℕ E) (P : Type 0) → OkIff r P n → (P → b ≡ true) → (b ≡ true → P) → result_ok r ≡ (if b then Some n else None)
chosen true n (Ok x) P h f g = ap Some h.1
chosen true n (Err e) P h f g = absurd (h (g refl))
chosen false n (Ok x) P h f g = absurd (let e = f h.0 in cc)
chosen false n (Err e) P h f g = refl

pub number_is : {E : Type 0} (text : List ℕ) (r : Result ℕ E) → ParsesUnsigned 64 10 text r → result_ok r ≡ number_of text
unfolding number_of
number_is text r h =
    let ds = without_leading_plus text in
    chosen (is_number ds) (digits_value 10 ds) r (IsNumeral 10 ds × (digits_value 10 ds < 2 ^ 64)) h (λ p. numeral_from ds (2 ^ 64) p.0 p.1) (numeral_told ds (2 ^ 64))
