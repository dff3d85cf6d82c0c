use Rattle.std.proofs.Common.{◌-◌, ◌≤◌, length}
use Rattle.dns_values.proofs.Pieces.{Gave}
use Rattle.dns_values.proofs.streams.read_to_end.Given as goal

abbrev pub invariant-loop-octets : goal.invariant-loop-octets
invariant-loop-octets g l = record {
  within : length l.octets.items ≤ l.most;
  gave : Gave (g.S.Source.left l.fn.source) l.octets.items (g.S.Source.left l.source);
  count : g.S.Source.faults l.fn.source ≤ g.S.Source.faults l.source;
}

abbrev pub decreases-loop-octets : goal.decreases-loop-octets
decreases-loop-octets g l = l.most - length l.octets.items
