-- the octets before the index have been taken
use Rattle.std.proofs.Common.{◌≡◌}
use Rattle.zone_records.specs.Heads.{octets_from}
use Rattle.zone_records.proofs.keyed.head_of.Given as goal

abbrev pub invariant-loop-at : goal.invariant-loop-at
invariant-loop-at l = l.head ≡ octets_from l.at l.octets
