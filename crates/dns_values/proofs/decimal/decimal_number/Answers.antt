-- The number is what is asked for, or past the greatest.
use Rattle.std.proofs.Common.{sym, ◌∙◌, arith}
use Rattle.dns_values.proofs.Decimals.{within_past, within_some}
use Rattle.dns_values.proofs.decimal.decimal_number.Goals as goal

pub returns-then-number-greatest-clause-value : goal.returns-then-number-greatest-clause-value
returns-then-number-greatest-clause-value c = within_past c.args.greatest c.in_ok-number.number c.args.digits.now (sym c.in_ok-number.was ∙ c.any_number.ensures) c.if-number-greatest.true

pub returns-else-number-greatest-clause-value : goal.returns-else-number-greatest-clause-value
returns-else-number-greatest-clause-value c = within_some c.args.greatest c.in_ok-number.number c.args.digits.now (sym c.in_ok-number.was ∙ c.any_number.ensures) (omega arith)
