use Rattle.std.specs.Vec.Iter.{into_iter_items}
use Rattle.zone_transfer.proofs.Sizes.{appending_from, appending_next}
use Rattle.zone_transfer.proofs.reading.Reading.append.Goals as goal

pub loop-update-init : goal.loop-update-init
loop-update-init c = appending_from c.args.self.now c.args.more.items (into_iter_items c.into_iter-update-iterator.result) c.into_iter-update-iterator.ensures.into_iter_gives.0

pub loop-update-preserved : goal.loop-update-preserved
loop-update-preserved c =
    appending_next c.args.self.now c.loop-update.self c.push.new.self c.args.more.items (into_iter_items c.loop-update.update-iterator) (into_iter_items c.next.new.self) c.in-Some.update c.in-Some.ensures.steps.0 c.loop-update.invariant
    c.in_ok-push.ensures.ok
