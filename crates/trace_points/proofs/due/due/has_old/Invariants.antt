-- those that are left tell what all tell
use Rattle.std.proofs.Common.{◌≡◌}
use Rattle.trace_points.specs.due.Due.{has_old}
use Rattle.trace_points.proofs.due.due.has_old.Given as goal

abbrev pub invariant-loop-written : goal.invariant-loop-written
invariant-loop-written l = record {
  can_next : (goal.iterator-loop-written).can_next l.written-iterator;
  is_finite : (goal.iterator-loop-written).is_finite l.written-iterator;
  same : has_old l.conf l.moment l.written-iterator ≡ has_old l.conf l.moment l.writes;
}
