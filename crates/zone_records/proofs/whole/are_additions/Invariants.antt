-- The updates before the rest are additions.
use Rattle.std.proofs.Common.{◌≡◌, length}
use Rattle.zone_records.specs.Changing.{are_additions}
use Rattle.zone_records.proofs.whole.are_additions.Given as goal

abbrev pub invariant-loop-rest : goal.invariant-loop-rest
invariant-loop-rest l = are_additions l.fn.updates ≡ are_additions l.rest

abbrev pub decreases-loop-rest : goal.decreases-loop-rest
decreases-loop-rest l = length l.rest
