-- the digits that are left, behind the number so far, say what all say
use Rattle.std.proofs.Common.{◌≡◌, ◌<◌, ◌^◌, drop, length}
use Rattle.dns_values.proofs.Decimals.{read_on}
use Rattle.dns_values.proofs.decimal.short_number.Given as goal

abbrev pub invariant-loop-digit : goal.invariant-loop-digit
invariant-loop-digit l = record {
  rest : read_on 18446744073709551615 l.number (drop l.digit-index l.digits) ≡ read_on 18446744073709551615 0 l.digits;
  small : l.number < 18446744073709551616;
  some : 0 < length l.digits;
  below : l.number < 10 ^ l.digit-index;
}
