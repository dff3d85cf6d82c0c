use Rattle.std.proofs.Common.{List, length, subst}
use Rattle.std.specs.Prelude.{IfOk}
use Rattle.front_shared.specs.declared.entry.Item.{Item}
use Rattle.forward_workers.specs.Sharing.{HaveCome, passes_of}
use Rattle.forward_workers.proofs.Sharings.{first_number, shares_if}
use Rattle.forward_workers.proofs.sharing.share_among.Goals as goal

pub first_and_workers-done-requires-after_bounds : goal.first_and_workers-done-requires-after_bounds
first_and_workers-done-requires-after_bounds g c κs within = first_number c.args.first.pass (passes_of c.args.lanes.items) g.L.ForwarderKey.opening.callers (length c.args.lanes.items) c.requires.passes c.requires.callers

pub returns-in-Ok : goal.returns-in-Ok
returns-in-Ok g c =
    let turned = c.first_and_workers-done.result.1 in
    shares_if g.F.Front.deeds g.D.Door.deeds c.args.turns g.L.ForwarderKey.opening c.close-closed.result.desk c.args.first turned c.args.lanes.items c.in-Ok.done.items c.settle.new.pass c.come_to.result
    c.history_is_legal.ensures c.requires.passes c.requires.callers c.first_and_workers-done.ensures.first (rw c.in-Ok.is at c.first_and_workers-done.ensures.count)
    (rw c.in-Ok.is at c.first_and_workers-done.ensures.workers) c.settle.ensures.settled
    (subst (λ (items : List Item). IfOk c.come_to.result (λ came. HaveCome items c.in-Ok.done.items turned.answered came.workers.items came.answered)) c.settle.ensures.same c.come_to.ensures)
