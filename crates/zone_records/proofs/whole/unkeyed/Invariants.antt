-- the records so far, and those that are left
use Rattle.std.proofs.Common.{◌≡◌, ◌++◌}
use Rattle.std.specs.Vec.Iter.{into_iter_items}
use Rattle.zone_records.proofs.whole.unkeyed.Given as goal

abbrev pub invariant-loop-item : goal.invariant-loop-item
invariant-loop-item l = l.fn.keyed.items ≡ l.records.items ++ into_iter_items l.item-iterator
