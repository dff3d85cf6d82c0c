use Rattle.zone_records.proofs.Items.{counting_on, items_on}
use Rattle.zone_records.proofs.interpreter.take_items.Goals as goal

pub loop-item-preserved : goal.loop-item-preserved
loop-item-preserved c = record {
  can_next = tt;
  is_finite = tt;
  same =
      items_on c.args.apex.now c.args.kind c.args.first c.loop-item.state c.in-Some-2.next c.args.records c.loop-item.item-iterator c.next.new.self c.in-Some.item c.args.updates.now.items c.loop-item.updates.items c.take_item.new.updates.items
      c.in_ok-take_item.field-0 c.in-Some.ensures.steps c.in-Some-2.is c.in_ok-take_item.ensures.step c.loop-item.invariant.same;
  counts =
      counting_on c.args.apex.now c.args.records c.loop-item.item-iterator c.next.new.self c.in-Some.item c.args.outside.now c.loop-item.outside c.take_item.new.outside c.in_ok-take_item.field-0 c.in-Some-2.next
      c.in-Some.ensures.steps c.in-Some-2.is c.in_ok-take_item.ensures.counts c.loop-item.invariant.counts;
}
