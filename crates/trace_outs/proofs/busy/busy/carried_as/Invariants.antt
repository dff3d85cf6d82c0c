-- what is left tells what all tell
use Rattle.std.proofs.Common.{◌≡◌}
use Rattle.trace_outs.specs.busy.Busy.{carried_as}
use Rattle.trace_outs.proofs.busy.busy.carried_as.Given as goal

abbrev pub invariant-loop-noted : goal.invariant-loop-noted
invariant-loop-noted l = record {
  can_next : (goal.iterator-loop-noted).can_next l.noted-iterator;
  is_finite : (goal.iterator-loop-noted).is_finite l.noted-iterator;
  same : carried_as l.via l.id l.octets l.noted-iterator ≡ carried_as l.via l.id l.octets l.carried;
}
