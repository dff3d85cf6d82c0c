use Rattle.std.proofs.Common.{◌≡◌, length}
use Rattle.zone_records.specs.Records.{is_within}
use Rattle.zone_records.proofs.inside.ends_with.Given as goal

abbrev pub invariant-labels : goal.invariant-labels
invariant-labels l = is_within l.fn.apex l.fn.left ≡ is_within l.fn.apex l.left

abbrev pub decreases-labels : goal.decreases-labels
decreases-labels l = length l.left
