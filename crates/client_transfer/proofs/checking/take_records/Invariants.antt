use Rattle.std.proofs.Common.{◌≡◌}
use Rattle.client_transfer.specs.States.{takes_items}
use Rattle.client_transfer.proofs.checking.take_records.Given as goal

abbrev pub invariant-loop-item : goal.invariant-loop-item
invariant-loop-item l = record {
  can_next : (goal.iterator-loop-item).can_next l.item-iterator;
  is_finite : (goal.iterator-loop-item).is_finite l.item-iterator;
  same : takes_items l.fn.first l.fn.records ≡ takes_items l.state l.item-iterator;
}
