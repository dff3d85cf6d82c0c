use Rattle.client_core.proofs.ComingOctets.{all_come, next_comes}
use Rattle.client_core.proofs.octets.all_in_octets.Goals as goal

pub loop-event-init : goal.loop-event-init
loop-event-init c = tt

pub loop-event-preserved : goal.loop-event-preserved
loop-event-preserved c =
    next_comes c.args.events.now c.loop-event.event-index c.event-item.result c.loop-event-test.true c.event-item.is c.loop-event.invariant c.in_octets.ensures

pub returns : goal.returns
returns c = all_come c.args.events.now c.loop-event.event-index c.loop-event-test.false c.loop-event.invariant
