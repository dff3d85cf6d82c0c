use Rattle.forward_workers.proofs.Workings.{begins_to_work, goes_on}
use Rattle.forward_workers.proofs.working.work_on.Goals as goal

pub loop-left-init : goal.loop-left-init
loop-left-init g c = begins_to_work c.args.pass.now (g.D.Door.deeds c.args.worker.now.door)

pub loop-left-preserved-then-more-eq0 : goal.loop-left-preserved-then-more-eq0
loop-left-preserved-then-more-eq0 g c =
    goes_on c.args.pass.now c.loop-left.pass c.work_once.new.pass (g.D.Door.deeds c.args.worker.now.door) (g.D.Door.deeds c.loop-left.worker.door) (g.D.Door.deeds c.work_once.new.worker.door)
    c.loop-left.answered c.in_ok-more.more.answered c.in-Some.sum c.loop-left.invariant (c.in_ok-more.ensures.goes_on c.if-more.false) c.in-Some.ensures.1

pub loop-left-preserved : goal.loop-left-preserved
loop-left-preserved g c =
    goes_on c.args.pass.now c.loop-left.pass c.work_once.new.pass (g.D.Door.deeds c.args.worker.now.door) (g.D.Door.deeds c.loop-left.worker.door) (g.D.Door.deeds c.work_once.new.worker.door)
    c.loop-left.answered c.in_ok-more.more.answered c.in-Some.sum c.loop-left.invariant (c.in_ok-more.ensures.goes_on c.if-more.false) c.in-Some.ensures.1
