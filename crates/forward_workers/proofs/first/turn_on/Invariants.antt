use Rattle.forward_workers.proofs.Firsts.{FirstSo}
use Rattle.forward_workers.proofs.first.turn_on.Given as goal

abbrev pub invariant-loop-left : goal.invariant-loop-left
invariant-loop-left g l = FirstSo l.fn.turns l.left l.fn.pass l.pass (g.F.Front.deeds l.fn.front) (g.F.Front.deeds l.front) l.answered

abbrev pub decreases-loop-left : goal.decreases-loop-left
decreases-loop-left g l = l.left
