use Rattle.std.proofs.Common.{◌≡◌}
use Rattle.cache_rules.specs.Validity.{are_known}
use Rattle.cache_rules.proofs.keeping.are_known.Given as goal

abbrev pub invariant-loop-record : goal.invariant-loop-record
invariant-loop-record l = record {
  can_next : (goal.iterator-loop-record).can_next l.record-iterator;
  is_finite : (goal.iterator-loop-record).is_finite l.record-iterator;
  same : are_known l.fn.records ≡ are_known l.record-iterator;
}
