use Rattle.std.proofs.Common.{take}
use Rattle.right_trace.specs.InOctets.{AllInOctets}
use Rattle.client_core.proofs.octets.all_in_octets.Given as goal

abbrev pub invariant-loop-event : goal.invariant-loop-event
invariant-loop-event l = AllInOctets (take l.event-index l.events)
