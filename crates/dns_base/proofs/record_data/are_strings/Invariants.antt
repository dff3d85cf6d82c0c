use Rattle.std.proofs.Common.{◌≡◌, drop}
use Rattle.dns_base.specs.Data.{are_strings_after}
use Rattle.dns_base.proofs.record_data.are_strings.Given as goal

abbrev pub invariant-loop-octet : goal.invariant-loop-octet
invariant-loop-octet l = are_strings_after 0 l.octets ≡ are_strings_after l.left (drop l.octet-index l.octets)
