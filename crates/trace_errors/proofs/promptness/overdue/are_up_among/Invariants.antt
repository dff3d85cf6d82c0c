-- those that are left tell what all tell
use Rattle.std.proofs.Common.{◌≡◌}
use Rattle.trace_errors.specs.promptness.Overdue.{are_up_among}
use Rattle.trace_errors.proofs.promptness.overdue.are_up_among.Given as goal

abbrev pub invariant-loop-tried : goal.invariant-loop-tried
invariant-loop-tried l = record {
  can_next : (goal.iterator-loop-tried).can_next l.tried-iterator;
  is_finite : (goal.iterator-loop-tried).is_finite l.tried-iterator;
  same : are_up_among l.conf l.moment l.past l.tries l.tried-iterator ≡ are_up_among l.conf l.moment l.past l.tries l.tries;
}
