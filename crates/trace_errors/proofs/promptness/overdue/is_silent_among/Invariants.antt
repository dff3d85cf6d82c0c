-- those that are left tell what all tell
use Rattle.std.proofs.Common.{◌≡◌}
use Rattle.trace_errors.specs.promptness.Overdue.{is_silent_among}
use Rattle.trace_errors.proofs.promptness.overdue.is_silent_among.Given as goal

abbrev pub invariant-loop-start : goal.invariant-loop-start
invariant-loop-start l = record {
  can_next : (goal.iterator-loop-start).can_next l.start-iterator;
  is_finite : (goal.iterator-loop-start).is_finite l.start-iterator;
  same : is_silent_among l.conf l.request l.moment l.requests l.heard l.start-iterator ≡ is_silent_among l.conf l.request l.moment l.requests l.heard l.starts;
}
