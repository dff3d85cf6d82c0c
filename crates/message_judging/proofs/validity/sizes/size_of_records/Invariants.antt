use Rattle.std.proofs.Common.{◌≡◌}
use Rattle.message_judging.specs.validity.Sizes.{records_behind}
use Rattle.message_judging.proofs.validity.sizes.size_of_records.Given as goal

abbrev pub invariant-loop-record : goal.invariant-loop-record
invariant-loop-record l = record {
  can_next : (goal.iterator-loop-record).can_next l.record-iterator;
  is_finite : (goal.iterator-loop-record).is_finite l.record-iterator;
  same : records_behind l.section l.fn.records l.fn.before ≡ records_behind l.section l.record-iterator l.size;
}
