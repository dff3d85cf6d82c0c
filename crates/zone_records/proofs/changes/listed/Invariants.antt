-- the records so far, and those that are left
use Rattle.std.proofs.Common.{◌≡◌, ◌++◌}
use Rattle.zone_records.proofs.changes.listed.Given as goal

abbrev pub invariant-loop-item : goal.invariant-loop-item
invariant-loop-item l = l.fn.set.keys ≡ l.records.items ++ l.item-iterator
