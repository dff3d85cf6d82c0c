use Rattle.std.proofs.Common.{◌≡◌}
use Rattle.std.specs.Prelude.{None}
use Rattle.dns_base.proofs.Aliases.{found_in}
use Rattle.dns_base.proofs.lookups.first_alias.Given as goal

abbrev pub invariant-loop-record : goal.invariant-loop-record
invariant-loop-record l = record {
  can_next : (goal.iterator-loop-record).can_next l.record-iterator;
  is_finite : (goal.iterator-loop-record).is_finite l.record-iterator;
  same : found_in l.owner None l.fn.records ≡ found_in l.owner l.found l.record-iterator;
}
