-- those that are left tell what all tell
use Rattle.std.proofs.Common.{◌≡◌}
use Rattle.std.specs.List.{list_any}
use Rattle.trace_replies.specs.firsts.Failing.{failed_first}
use Rattle.trace_replies.proofs.firsts.failing.some_failed_first.Given as goal

abbrev pub invariant-loop-one : goal.invariant-loop-one
invariant-loop-one l = record {
  can_next : (goal.iterator-loop-one).can_next l.one-iterator;
  is_finite : (goal.iterator-loop-one).is_finite l.one-iterator;
  same : list_any (failed_first l.settings) l.one-iterator ≡ list_any (failed_first l.settings) l.arrived;
}
