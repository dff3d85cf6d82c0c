-- the addresses before the index are in range
use Rattle.std.proofs.Common.{take}
use Rattle.script_printing.specs.CanBeTold.{AreAddresses}
use Rattle.script_printing.proofs.head.addresses_are_in_range.Given as goal

abbrev pub invariant-loop-server : goal.invariant-loop-server
invariant-loop-server l = AreAddresses (take l.server-index l.servers)
