use Rattle.std.proofs.Common.{◌≡◌, ◌++◌}
use Rattle.front_peers.specs.Items as spec
use Rattle.front_peers.proofs.items.take_frames.Given as goal

abbrev pub invariant-loop-left : goal.invariant-loop-left
invariant-loop-left l = record {
  items : l.fn.items ++ (spec.of_frames l.fn.most l.fn.peer l.fn.framer).0 ≡ l.items ++ (spec.of_frames l.left l.fn.peer l.framer).0;
  left : (spec.of_frames l.fn.most l.fn.peer l.fn.framer).1 ≡ (spec.of_frames l.left l.fn.peer l.framer).1;
}

abbrev pub decreases-loop-left : goal.decreases-loop-left
decreases-loop-left l = l.left
