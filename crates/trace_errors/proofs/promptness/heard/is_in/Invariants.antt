-- those that are left tell what all tell
use Rattle.std.proofs.Common.{◌≡◌}
use Rattle.trace_errors.specs.promptness.Heard.{is_in}
use Rattle.trace_errors.proofs.promptness.heard.is_in.Given as goal

abbrev pub invariant-loop-one : goal.invariant-loop-one
invariant-loop-one l = record {
  can_next : (goal.iterator-loop-one).can_next l.one-iterator;
  is_finite : (goal.iterator-loop-one).is_finite l.one-iterator;
  same : is_in l.server l.one-iterator ≡ is_in l.server l.servers;
}
