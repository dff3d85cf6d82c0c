use Rattle.std.proofs.Common.{◌≡◌}
use Rattle.cache_rules.specs.Validity.{least_met}
use Rattle.cache_rules.proofs.keeping.least_ttl.Given as goal

abbrev pub invariant-loop-record : goal.invariant-loop-record
invariant-loop-record l = record {
  can_next : (goal.iterator-loop-record).can_next l.record-iterator;
  is_finite : (goal.iterator-loop-record).is_finite l.record-iterator;
  same : least_met l.section l.fn.records l.fn.before ≡ least_met l.section l.record-iterator l.least;
}
