use Rattle.std.proofs.Common.{◌≡◌, false, length}
use Rattle.front_steps.specs.Steps.{DidSo, Doing, scene}
use Rattle.front_steps.proofs.forwarder.do_all.Given as goal

abbrev pub invariant-loop-item : goal.invariant-loop-item
invariant-loop-item g l = record {
  did :
      DidSo (Doing (g.C.Within.steps) (g.C.Within.serves) l.moment l.fn.items
      (scene l.fn.within (g.W.Words.stream l.fn.words) l.fn.desk l.fn.outs) l.left.items
      (scene l.within (g.W.Words.stream l.words) l.desk l.outs)) l.happened;
  sound : g.C.Within.has_failed l.within ≡ false;
}

abbrev pub decreases-loop-item : goal.decreases-loop-item
decreases-loop-item g l = length l.left.items
