use Rattle.std.proofs.Common.{arith}
use Rattle.forward_workers.proofs.Workings.{begins_to_work, goes_on}
use Rattle.forward_workers.proofs.working.work_held.Goals as goal

pub loop-left-init : goal.loop-left-init
loop-left-init g c = (begins_to_work c.args.pass.now (g.D.Door.deeds c.args.worker.now.door), omega arith)

pub loop-left-preserved : goal.loop-left-preserved
loop-left-preserved g c = (
  goes_on c.args.pass.now c.loop-left.pass c.work.new.pass (g.D.Door.deeds c.args.worker.now.door) (g.D.Door.deeds c.loop-left.worker.door) (g.D.Door.deeds c.work.new.worker.door)
      c.loop-left.answered c.in-Some.more c.in-Some-checked_add.sum c.loop-left.invariant.0 (rw c.in-Some.is at c.in_ok-more.ensures.goes_on) c.in-Some-checked_add.ensures.1,
  omega (arith, c.loop-left.invariant.1),
)
