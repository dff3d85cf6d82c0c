use Rattle.std.proofs.Common.{◌≡◌, take, map, decimal}
use Rattle.std.specs.List.{AllByRecursion}
use Rattle.dns_names.specs.Draft.{written}
use Rattle.dns_names.specs.Reverse.{IsDecimal}
use Rattle.dns_names.proofs.reverse.decimal_name.Given as goal

abbrev pub invariant-loop-octet : goal.invariant-loop-octet
invariant-loop-octet l = record {
  same : l.name.items ≡ written (map decimal (take l.octet-index l.octets));
  small : AllByRecursion IsDecimal (map decimal (take l.octet-index l.octets));
}
