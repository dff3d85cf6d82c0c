use Rattle.std.proofs.Common.{◌-◌, length}
use Rattle.number_table.specs.Slots.{AreEmptyBefore}
use Rattle.number_table.proofs.slots.first_place.Given as goal

abbrev pub invariant-loop-place : goal.invariant-loop-place
invariant-loop-place g l = AreEmptyBefore l.fn.place l.slots → AreEmptyBefore l.place l.slots

abbrev pub decreases-loop-place : goal.decreases-loop-place
decreases-loop-place g l = length l.slots - l.place
