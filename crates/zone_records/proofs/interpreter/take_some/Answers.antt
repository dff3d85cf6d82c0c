use Rattle.zone_records.proofs.Items.{joined}
use Rattle.zone_records.proofs.interpreter.take_some.Goals as goal

pub returns-in_ok-after-in-Some-2-clause-step : goal.returns-in_ok-after-in-Some-2-clause-step
returns-in_ok-after-in-Some-2-clause-step c =
    joined c.args.apex.now c.args.kind c.args.first c.in-Some-2.next c.args.records c.next.new.self c.in-Some.item c.args.updates.now.items c.take_item.new.updates.items c.take_items.new.updates.items c.in_ok-take_item.field-0
    c.in_ok-after-in-Some-2.after c.in-Some.ensures.steps c.in-Some-2.is c.in_ok-take_item.ensures.step c.in_ok-after-in-Some-2.ensures.step
