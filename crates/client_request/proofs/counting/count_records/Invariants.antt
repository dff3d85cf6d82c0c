use Rattle.std.proofs.Common.{◌≡◌}
use Rattle.client_request.specs.Composed.{each}
use Rattle.client_request.specs.Counted.{counts_known}
use Rattle.client_request.proofs.counting.count_records.Given as goal

abbrev pub invariant-loop-source : goal.invariant-loop-source
invariant-loop-source l = record {
  can_next : (goal.iterator-loop-source).can_next l.source-iterator;
  is_finite : (goal.iterator-loop-source).is_finite l.source-iterator;
  same : each (counts_known l.section) l.fn.records l.initial.counts ≡ each (counts_known l.section) l.source-iterator l.counts;
}
