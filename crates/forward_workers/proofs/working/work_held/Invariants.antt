use Rattle.std.proofs.Common.{◌≤◌}
use Rattle.forward_workers.specs.Working.{GoesOn}
use Rattle.forward_workers.proofs.working.work_held.Given as goal

abbrev pub invariant-loop-left : goal.invariant-loop-left
invariant-loop-left g l = GoesOn l.fn.pass l.pass (g.D.Door.deeds l.fn.worker.door) (g.D.Door.deeds l.worker.door) l.answered × (l.left ≤ l.most)

abbrev pub decreases-loop-left : goal.decreases-loop-left
decreases-loop-left g l = l.left
