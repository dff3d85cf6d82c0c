use Rattle.std.proofs.Common.{◌≡◌}
use Rattle.cache_rules.specs.Validity.{meets}
use Rattle.cache_rules.proofs.keeping.meets.Given as goal

abbrev pub invariant-loop-record : goal.invariant-loop-record
invariant-loop-record l = record {
  can_next : (goal.iterator-loop-record).can_next l.record-iterator;
  is_finite : (goal.iterator-loop-record).is_finite l.record-iterator;
  same : meets l.rtype.0 l.class.0 l.fn.records ≡ meets l.rtype.0 l.class.0 l.record-iterator;
}
