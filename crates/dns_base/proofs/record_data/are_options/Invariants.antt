use Rattle.std.proofs.Common.{◌≡◌, length}
use Rattle.dns_base.specs.Data.{are_options}
use Rattle.dns_base.proofs.record_data.are_options.Given as goal

abbrev pub invariant-options : goal.invariant-options
invariant-options l = are_options l.octets ≡ are_options l.rest

abbrev pub decreases-options : goal.decreases-options
decreases-options l = length l.rest
