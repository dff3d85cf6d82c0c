use Rattle.std.proofs.Common.{◌≡◌}
use Rattle.dns_base.specs.OptRecord.{first_opt}
use Rattle.dns_base.proofs.opt_record.OptRecord.first.Given as goal

abbrev pub invariant-loop-record : goal.invariant-loop-record
invariant-loop-record l = record {
  can_next : (goal.iterator-loop-record).can_next l.record-iterator;
  is_finite : (goal.iterator-loop-record).is_finite l.record-iterator;
  same : first_opt l.fn.records ≡ first_opt l.record-iterator;
}
