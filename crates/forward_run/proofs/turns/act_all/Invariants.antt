use Rattle.std.proofs.Common.{◌≡◌, take}
use Rattle.forward_run.specs.Front.{acts_on, after_deeds}
use Rattle.forward_run.proofs.turns.act_all.Given as goal

abbrev pub invariant-loop-out : goal.invariant-loop-out
invariant-loop-out g l = record {
  deeds : g.F.Front.deeds l.front ≡ after_deeds (acts_on (take l.out-index l.outs)) (g.F.Front.deeds l.fn.front);
  polls : g.F.Front.polls l.front ≡ g.F.Front.polls l.fn.front;
}
