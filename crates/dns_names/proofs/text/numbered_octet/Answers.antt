use Rattle.std.proofs.Common.{arith, sym}
use Rattle.dns_names.proofs.Texts.{number_is_read}
use Rattle.dns_names.proofs.text.numbered_octet.Goals as goal

pub returns-else-n-gt255-clause-value : goal.returns-else-n-gt255-clause-value
returns-else-n-gt255-clause-value c =
    number_is_read c.args.first c.args.text.now (omega arith) (sym c.if-is_digit.ensures) (sym c.if-is_digit-2.ensures) (omega arith)
