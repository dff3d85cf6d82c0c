-- those that are left are still to be counted
use Rattle.std.proofs.Common.{◌≡◌, ◌+◌, ◌≤◌, min}
use Rattle.trace_tables.specs.sets.Sets.{count_of}
use Rattle.trace_outs.specs.busy.Taken.{taken_seen}
use Rattle.trace_outs.proofs.busy.taken.count_taken.Given as goal

abbrev pub invariant-loop-number : goal.invariant-loop-number
invariant-loop-number l = record {
  can_next : (goal.iterator-loop-number).can_next l.number-iterator;
  is_finite : (goal.iterator-loop-number).is_finite l.number-iterator;
  few : l.count ≤ l.most;
  same : min l.most (l.count + count_of (taken_seen l.request l.books) l.number-iterator) ≡ min l.most (count_of (taken_seen l.request l.books) l.numbers);
}
