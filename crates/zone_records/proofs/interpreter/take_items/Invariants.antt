-- the updates so far, and the records that are left
use Rattle.zone_records.proofs.Items.{Counting, SoFar}
use Rattle.zone_records.proofs.interpreter.take_items.Given as goal

abbrev pub invariant-loop-item : goal.invariant-loop-item
invariant-loop-item l = record {
  can_next : (goal.iterator-loop-item).can_next l.item-iterator;
  is_finite : (goal.iterator-loop-item).is_finite l.item-iterator;
  same : SoFar l.fn.apex l.fn.kind l.fn.first l.state l.fn.records l.item-iterator l.fn.updates.items l.updates.items;
  counts : Counting l.fn.apex l.fn.records l.item-iterator l.fn.outside l.outside;
}
