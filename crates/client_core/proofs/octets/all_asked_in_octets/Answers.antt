use Rattle.client_core.proofs.AskedOctets.{all_asked, next_asked}
use Rattle.client_core.proofs.octets.all_asked_in_octets.Goals as goal

pub loop-event-init : goal.loop-event-init
loop-event-init c = tt

pub loop-event-preserved : goal.loop-event-preserved
loop-event-preserved c =
    next_asked c.args.events.now c.loop-event.event-index c.event-item.result c.loop-event-test.true c.event-item.is c.loop-event.invariant c.asked_in_octets.ensures

pub returns : goal.returns
returns c = all_asked c.args.events.now c.loop-event.event-index c.loop-event-test.false c.loop-event.invariant
