use Rattle.std.proofs.Common.{◌≡◌, ◌∷◌}
use Rattle.std.specs.Vec.Iter.{into_iter_items}
use Rattle.zone_refresh_run.proofs.Starting.{one_more_started}
use Rattle.zone_refresh_run.proofs.keeping.start_all.Goals as goal

pub loop-item-preserved : goal.loop-item-preserved
loop-item-preserved g c =
    let left : into_iter_items c.loop-item.item-iterator ≡ c.in-Some.item ∷ into_iter_items c.next.new.self = (let e = c.in-Some.ensures.steps.0 in cc) in
    one_more_started c.args.listed.items (into_iter_items c.loop-item.item-iterator) (into_iter_items c.next.new.self) c.in-Some.item c.args.now
    c.loop-item.zones.items c.push.new.self.items c.loop-item.files.items c.push-in-loop-item.new.self.items c.start-zone.result c.is_some.result _ _ _
    c.loop-item.invariant left c.start-zone.ensures.zone c.start-zone.ensures.acts c.in_ok-push.ensures.items c.in_ok-push-2.ensures.items c.is_some.ensures
