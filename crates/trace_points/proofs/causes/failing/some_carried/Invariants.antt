-- those that are left tell what all tell
use Rattle.std.proofs.Common.{◌≡◌}
use Rattle.trace_points.specs.causes.Failing.{some_carried}
use Rattle.trace_points.proofs.causes.failing.some_carried.Given as goal

abbrev pub invariant-loop-sent : goal.invariant-loop-sent
invariant-loop-sent l = record {
  can_next : (goal.iterator-loop-sent).can_next l.sent-iterator;
  is_finite : (goal.iterator-loop-sent).is_finite l.sent-iterator;
  same : some_carried l.conf l.asked l.request l.sent-iterator ≡ some_carried l.conf l.asked l.request l.sends;
}
