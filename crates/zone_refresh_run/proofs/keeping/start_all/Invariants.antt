-- the zones that are kept so far, and those that are left
use Rattle.std.specs.Vec.Iter.{into_iter_items}
use Rattle.zone_refresh_run.proofs.Starting.{StartedSo}
use Rattle.zone_refresh_run.proofs.keeping.start_all.Given as goal

abbrev pub invariant-loop-item : goal.invariant-loop-item
invariant-loop-item g l = StartedSo l.fn.listed.items (into_iter_items l.item-iterator) l.fn.now l.zones.items l.files.items (g.S.System.acts l.fn.system) (g.S.System.acts l.system)
