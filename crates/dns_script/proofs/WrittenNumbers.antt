-- The digits of a number, of which the last is written first.
use Rattle.std.proofs.Common.{◌≡◌, ◌<◌, ◌≤◌, ◌+◌, ◌-◌, ◌/◌, ◌%◌, ◌^◌, ℕ, List, ◌++◌, length, take, drop, slice_set, refl, ap, ◌∙◌, arith, append_assoc, length-append, length-set}
use Rattle.std.proofs.lemmas.Fmt.{decimal_digit, decimal_nonempty, decimal_step, length-decimal-le}
use Rattle.std.proofs.lemmas.List.{drop-set, length-drop, take_all}
use Rattle.std.specs.Fmt.{decimal}

pub longest : (n : ℕ) → n < 2 ^ 64 → length (decimal n) ≤ 20
longest n wide = length-decimal-le 20 n (omega arith) (omega arith) (omega arith)

pub one_digit_more : (n : ℕ) → 10 ≤ n → n < 2 ^ 64 → length (decimal n) ≡ length (decimal (n / 10)) + 1
one_digit_more n more wide = ap length (decimal_step n more wide) ∙ length-append _ _

pub two_digits : (n : ℕ) → 10 ≤ n → n < 2 ^ 64 → 2 ≤ length (decimal n)
two_digits n more wide = omega (arith, one_digit_more n more wide, decimal_nonempty (n / 10) (omega arith))

pub digit_written : (n : ℕ) (digits : List ℕ) (at : ℕ) → 10 ≤ n → n < 2 ^ 64 → at < length digits
    → decimal (n / 10) ++ drop at (slice_set digits at (48 + n % 10)) ≡ decimal n ++ drop (at + 1) digits
digit_written n digits at more wide within = rw (drop-set digits at (48 + n % 10) within, decimal_step n more wide, append_assoc)

pub first_written : (n : ℕ) (digits : List ℕ) (at : ℕ) → n < 10 → at < length digits
    → take (length digits - at) (drop at (slice_set digits at (48 + n))) ≡ decimal n ++ drop (at + 1) digits
first_written n digits at few within =
    let all = take_all (length digits - at) (drop at (slice_set digits at (48 + n))) (omega (arith, length-drop at (slice_set digits at (48 + n)), length-set digits at (48 + n))) in
    all ∙ rw (drop-set digits at (48 + n) within, decimal_digit n few) refl
