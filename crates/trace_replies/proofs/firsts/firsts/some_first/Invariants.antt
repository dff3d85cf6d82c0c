-- those that are left tell what all tell
use Rattle.std.proofs.Common.{◌≡◌}
use Rattle.trace_replies.specs.firsts.Firsts.{some_first}
use Rattle.trace_replies.proofs.firsts.firsts.some_first.Given as goal

abbrev pub invariant-loop-one : goal.invariant-loop-one
invariant-loop-one l = record {
  can_next : (goal.iterator-loop-one).can_next l.one-iterator;
  is_finite : (goal.iterator-loop-one).is_finite l.one-iterator;
  same : some_first l.message l.one-iterator ≡ some_first l.message l.arrived;
}
