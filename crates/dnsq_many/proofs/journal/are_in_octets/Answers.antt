use Rattle.std.proofs.Common.{◌∷◌, []}
use Rattle.dnsq_many.proofs.InOctets.{next_in_octets, all_in_octets}
use Rattle.dnsq_many.proofs.journal.are_in_octets.Goals as goal

pub loop-entry-init : goal.loop-entry-init
loop-entry-init c = (tt, tt)

pub loop-entry-preserved : goal.loop-entry-preserved
loop-entry-preserved c =
    next_in_octets c.args.entries.now c.loop-entry.entry-index c.entry-item.result c.loop-entry-test.true c.entry-item.is c.loop-entry.invariant (rw c.from_ref-event.ensures.value at c.all_asked_in_octets.ensures) (rw c.from_ref-event.ensures.value at c.all_in_octets.ensures)

pub returns : goal.returns
returns c = all_in_octets c.args.entries.now c.loop-entry.entry-index c.loop-entry-test.false c.loop-entry.invariant
