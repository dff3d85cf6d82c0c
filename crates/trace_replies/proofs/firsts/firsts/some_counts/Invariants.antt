-- those that are left tell what all tell
use Rattle.std.proofs.Common.{◌≡◌}
use Rattle.trace_replies.specs.firsts.Firsts.{some_counts}
use Rattle.trace_replies.proofs.firsts.firsts.some_counts.Given as goal

abbrev pub invariant-loop-one : goal.invariant-loop-one
invariant-loop-one l = record {
  can_next : (goal.iterator-loop-one).can_next l.one-iterator;
  is_finite : (goal.iterator-loop-one).is_finite l.one-iterator;
  same : some_counts l.one-iterator ≡ some_counts l.arrived;
}
