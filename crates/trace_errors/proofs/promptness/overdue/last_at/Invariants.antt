-- those that are left give what all give
use Rattle.std.proofs.Common.{◌≡◌}
use Rattle.trace_tables.specs.Sends.{last_at}
use Rattle.trace_errors.proofs.promptness.overdue.last_at.Given as goal

abbrev pub invariant-loop-tried : goal.invariant-loop-tried
invariant-loop-tried l = record {
  can_next : (goal.iterator-loop-tried).can_next l.tried-iterator;
  is_finite : (goal.iterator-loop-tried).is_finite l.tried-iterator;
  same : last_at l.server l.tried-iterator ≡ last_at l.server l.tries;
}
