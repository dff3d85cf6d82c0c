use Rattle.std.proofs.Common.{◌≡◌, ◌<◌, ◌+◌, ◌-◌, ◌*◌, None, false, length, get_or, sym, ◌∙◌, arith}
use Rattle.std.specs.Char.{is_ascii_digit}
use Rattle.std.proofs.lemmas.Grind.{common_steps}
use Rattle.dns_values.proofs.Decimals.{all_read, no_digit, none_empty, read_from_first, too_great}
use Rattle.dns_values.proofs.decimal.long_number.Goals as goal

pub returns-then-is_empty : goal.returns-then-is_empty
returns-then-is_empty c =
    let none : length c.args.digits.now ≡ 0 = grind (arith, common_steps) in
    none_empty 18446744073709551615 c.args.digits.now none

pub returns-then-not-is_ascii_digit : goal.returns-then-not-is_ascii_digit
returns-then-not-is_ascii_digit c =
    let other : is_ascii_digit (get_or c.args.digits.now c.loop-digit.digit-index 0) ≡ false = grind (arith, common_steps) in
    sym (no_digit 18446744073709551615 c.loop-digit.number c.loop-digit.digit-index c.args.digits.now (omega arith) other)
    ∙ c.loop-digit.invariant.rest ∙ read_from_first 18446744073709551615 c.args.digits.now c.loop-digit.invariant.some

pub returns-in_err-checked_mul : goal.returns-in_err-checked_mul
returns-in_err-checked_mul c =
    let past : 18446744073709551615 < 10 * c.loop-digit.number + (get_or c.args.digits.now c.loop-digit.digit-index 0 - 48) = grind (arith, common_steps) in
    let none : c.from_residual.result ≡ None = grind (arith, common_steps) in
    none ∙ sym (too_great 18446744073709551615 c.loop-digit.number c.loop-digit.digit-index c.args.digits.now (omega arith) (sym c.is_ascii_digit.ensures.value ∙ c.if-not-is_ascii_digit.false) past)
    ∙ c.loop-digit.invariant.rest ∙ read_from_first 18446744073709551615 c.args.digits.now c.loop-digit.invariant.some

pub returns-in_err-number : goal.returns-in_err-number
returns-in_err-number c =
    let past : 18446744073709551615 < 10 * c.loop-digit.number + (get_or c.args.digits.now c.loop-digit.digit-index 0 - 48) = grind (arith, common_steps) in
    let none : c.from_residual-in_err-number.result ≡ None = grind (arith, common_steps) in
    none ∙ sym (too_great 18446744073709551615 c.loop-digit.number c.loop-digit.digit-index c.args.digits.now (omega arith) (sym c.is_ascii_digit.ensures.value ∙ c.if-not-is_ascii_digit.false) past)
    ∙ c.loop-digit.invariant.rest ∙ read_from_first 18446744073709551615 c.args.digits.now c.loop-digit.invariant.some

pub returns : goal.returns
returns c =
    sym (all_read 18446744073709551615 c.loop-digit.number c.loop-digit.digit-index c.args.digits.now c.loop-digit-test.false (omega (arith, c.loop-digit.invariant.small)))
    ∙ c.loop-digit.invariant.rest ∙ read_from_first 18446744073709551615 c.args.digits.now c.loop-digit.invariant.some
