-- what is left does to the set what all was to do
use Rattle.std.specs.Vec.Iter.{into_iter_items}
use Rattle.zone_records.specs.Changing.{present}
use Rattle.zone_records.proofs.Folds.{Folding}
use Rattle.zone_records.proofs.folding.fold.Given as goal

abbrev pub invariant-loop-update : goal.invariant-loop-update
invariant-loop-update l = Folding l.fn.updates.items (into_iter_items l.update-iterator) (present l.fn.base l.fn.changes) (present l.fn.base l.changes) l.missing
