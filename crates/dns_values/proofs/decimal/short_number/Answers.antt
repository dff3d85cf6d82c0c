-- A digit more, which fits.
use Rattle.std.proofs.Common.{◌≡◌, false, length, get_or, sym, ◌∙◌, arith}
use Rattle.std.specs.Char.{is_ascii_digit}
use Rattle.std.proofs.lemmas.Grind.{common_steps}
use Rattle.dns_values.proofs.Decimals.{all_read, digit_at_most, digit_more, few_digits, no_digit, none_empty, read_from_first}
use Rattle.dns_values.proofs.decimal.short_number.Goals as goal

pub returns-then-is_empty : goal.returns-then-is_empty
returns-then-is_empty c =
    let none : length c.args.digits.now ≡ 0 = grind (arith, common_steps) in
    none_empty 18446744073709551615 c.args.digits.now none

pub returns-then-not-is_ascii_digit : goal.returns-then-not-is_ascii_digit
returns-then-not-is_ascii_digit c =
    let other : is_ascii_digit (get_or c.args.digits.now c.loop-digit.digit-index 0) ≡ false = grind (arith, common_steps) in
    sym (no_digit 18446744073709551615 c.loop-digit.number c.loop-digit.digit-index c.args.digits.now (omega arith) other)
    ∙ c.loop-digit.invariant.rest ∙ read_from_first 18446744073709551615 c.args.digits.now c.loop-digit.invariant.some

pub overflow_mul-number : goal.overflow_mul-number
overflow_mul-number c =
    let few = few_digits c.loop-digit.number c.loop-digit.digit-index c.loop-digit.invariant.below (omega arith) in
    record { fits = omega (arith, few.1) }

pub overflow_add-number : goal.overflow_add-number
overflow_add-number c =
    let few = few_digits c.loop-digit.number c.loop-digit.digit-index c.loop-digit.invariant.below (omega arith) in
    record { fits = omega (arith, few.1, digit_at_most (get_or c.args.digits.now c.loop-digit.digit-index 0) (sym c.is_ascii_digit.ensures.value ∙ c.if-not-is_ascii_digit.false)) }

pub loop-digit-preserved : goal.loop-digit-preserved
loop-digit-preserved c =
    let few = few_digits c.loop-digit.number c.loop-digit.digit-index c.loop-digit.invariant.below (omega arith) in
    record {
      rest = digit_more 18446744073709551615 c.loop-digit.number c.loop-digit.digit-index c.args.digits.now (omega arith) (sym c.is_ascii_digit.ensures.value ∙ c.if-not-is_ascii_digit.false) ∙ c.loop-digit.invariant.rest;
      small = omega (arith, few.1, digit_at_most (get_or c.args.digits.now c.loop-digit.digit-index 0) (sym c.is_ascii_digit.ensures.value ∙ c.if-not-is_ascii_digit.false));
      some = c.loop-digit.invariant.some;
      below = omega (arith, few.0, digit_at_most (get_or c.args.digits.now c.loop-digit.digit-index 0) (sym c.is_ascii_digit.ensures.value ∙ c.if-not-is_ascii_digit.false));
    }

pub returns : goal.returns
returns c =
    sym (all_read 18446744073709551615 c.loop-digit.number c.loop-digit.digit-index c.args.digits.now c.loop-digit-test.false (omega (arith, c.loop-digit.invariant.small)))
    ∙ c.loop-digit.invariant.rest ∙ read_from_first 18446744073709551615 c.args.digits.now c.loop-digit.invariant.some
