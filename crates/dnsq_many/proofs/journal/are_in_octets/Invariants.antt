use Rattle.std.proofs.Common.{take}
use Rattle.dnsq_many.specs.Lanes.{AreInOctets}
use Rattle.dnsq_many.proofs.journal.are_in_octets.Given as goal

abbrev pub invariant-loop-entry : goal.invariant-loop-entry
invariant-loop-entry l = AreInOctets (take l.entry-index l.entries)
