-- the updates so far, and those that are left
use Rattle.std.specs.Vec.Iter.{into_iter_items}
use Rattle.zone_transfer.proofs.Sizes.{Appending}
use Rattle.zone_transfer.proofs.reading.Reading.append.Given as goal

abbrev pub invariant-loop-update : goal.invariant-loop-update
invariant-loop-update l = Appending l.fn.self l.fn.more.items (into_iter_items l.update-iterator) l.self
