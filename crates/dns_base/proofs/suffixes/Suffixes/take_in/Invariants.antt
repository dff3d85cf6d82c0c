use Rattle.std.proofs.Common.{◌≡◌, ◌-◌, length}
use Rattle.dns_base.specs.Suffixes.{IsIndex}
use Rattle.dns_base.proofs.suffixes.Suffixes.take_in.Given as goal

abbrev pub invariant-loop-self : goal.invariant-loop-self
invariant-loop-self l = record {
  index : IsIndex l.self l.octets l.places;
  whole : l.self.octets ≡ length l.octets;
}

abbrev pub decreases-loop-self : goal.decreases-loop-self
decreases-loop-self l = length l.places - l.self.places
