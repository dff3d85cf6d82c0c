-- the faults that are left are still to be counted
use Rattle.std.proofs.Common.{◌≡◌, ◌+◌, ◌≤◌, min, drop}
use Rattle.right_trace.specs.Right.{faults}
use Rattle.trace_points.proofs.questions.marks.count_faults.Given as goal

abbrev pub invariant-loop-out : goal.invariant-loop-out
invariant-loop-out l = record {
  few : l.count ≤ 2;
  same : min 2 (l.count + faults (drop l.out-index l.outs)) ≡ min 2 (faults l.outs);
}
