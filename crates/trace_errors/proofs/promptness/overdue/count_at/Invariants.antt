-- those that are left are still to be counted
use Rattle.std.proofs.Common.{◌≡◌, ◌+◌, ◌≤◌, min}
use Rattle.trace_tables.specs.Sends.{count_at}
use Rattle.trace_errors.proofs.promptness.overdue.count_at.Given as goal

abbrev pub invariant-loop-tried : goal.invariant-loop-tried
invariant-loop-tried l = record {
  can_next : (goal.iterator-loop-tried).can_next l.tried-iterator;
  is_finite : (goal.iterator-loop-tried).is_finite l.tried-iterator;
  few : l.count ≤ l.most;
  same : min l.most (l.count + count_at l.server l.tried-iterator) ≡ min l.most (count_at l.server l.tries);
}
