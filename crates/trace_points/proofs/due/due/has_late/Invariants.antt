-- the entries that are left tell what all tell
use Rattle.std.proofs.Common.{◌≡◌}
use Rattle.trace_points.specs.due.Due.{has_late}
use Rattle.trace_points.proofs.due.due.has_late.Given as goal

abbrev pub invariant-loop-id : goal.invariant-loop-id
invariant-loop-id l = record {
  can_next : (goal.iterator-loop-id).can_next l.id-iterator;
  is_finite : (goal.iterator-loop-id).is_finite l.id-iterator;
  same : has_late l.conf l.moment l.frames l.at l.id-iterator ≡ has_late l.conf l.moment l.frames l.at l.at;
}
