-- those that are left tell what all tell
use Rattle.std.proofs.Common.{◌≡◌}
use Rattle.trace_errors.specs.owed.Owed.{some_written}
use Rattle.trace_errors.proofs.owed.owed.some_written.Given as goal

abbrev pub invariant-loop-written : goal.invariant-loop-written
invariant-loop-written l = record {
  can_next : (goal.iterator-loop-written).can_next l.written-iterator;
  is_finite : (goal.iterator-loop-written).is_finite l.written-iterator;
  same : some_written l.conf l.asked l.request l.id l.written-iterator ≡ some_written l.conf l.asked l.request l.id l.writes;
}
