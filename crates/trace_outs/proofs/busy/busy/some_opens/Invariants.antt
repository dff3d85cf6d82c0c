-- those that are left tell what all tell
use Rattle.std.proofs.Common.{◌≡◌}
use Rattle.trace_tables.specs.sets.Sets.{some_of}
use Rattle.trace_outs.specs.busy.Busy.{opens_seen}
use Rattle.trace_outs.proofs.busy.busy.some_opens.Given as goal

abbrev pub invariant-loop-number : goal.invariant-loop-number
invariant-loop-number l = record {
  can_next : (goal.iterator-loop-number).can_next l.number-iterator;
  is_finite : (goal.iterator-loop-number).is_finite l.number-iterator;
  same : some_of (opens_seen l.places) l.number-iterator ≡ some_of (opens_seen l.places) l.numbers;
}
