-- the entries that are left tell what all tell
use Rattle.std.proofs.Common.{◌≡◌}
use Rattle.trace_points.specs.due.Due.{all_freed}
use Rattle.trace_points.proofs.due.due.all_freed.Given as goal

abbrev pub invariant-loop-id : goal.invariant-loop-id
invariant-loop-id l = record {
  can_next : (goal.iterator-loop-id).can_next l.id-iterator;
  is_finite : (goal.iterator-loop-id).is_finite l.id-iterator;
  same : all_freed l.freed l.at l.id-iterator ≡ all_freed l.freed l.at l.at;
}
