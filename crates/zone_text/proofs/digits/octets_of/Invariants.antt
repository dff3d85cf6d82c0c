-- the octets so far stand before those that the digits that are left write
use Rattle.std.proofs.Common.{◌≡◌, length}
use Rattle.dns_presentation.specs.Octets.{octets_of_hex}
use Rattle.zone_text.proofs.Spelled.{put_before}
use Rattle.zone_text.proofs.digits.octets_of.Given as goal

abbrev pub invariant-loop-high : goal.invariant-loop-high
invariant-loop-high l = octets_of_hex l.fn.digits ≡ put_before l.octets.items (octets_of_hex l.rest)

abbrev pub decreases-loop-high : goal.decreases-loop-high
decreases-loop-high l = length l.rest
