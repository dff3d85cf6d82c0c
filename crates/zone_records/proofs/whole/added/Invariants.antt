-- the records so far, and those that are left
use Rattle.std.proofs.Common.{◌≡◌, ◌++◌}
use Rattle.std.specs.Vec.Iter.{into_iter_items}
use Rattle.zone_records.specs.Changing.{all_added}
use Rattle.zone_records.proofs.whole.added.Given as goal

abbrev pub invariant-loop-update : goal.invariant-loop-update
invariant-loop-update l = all_added l.fn.updates.items ≡ l.records.items ++ all_added (into_iter_items l.update-iterator)
