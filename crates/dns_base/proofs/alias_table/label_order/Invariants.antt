use Rattle.std.proofs.Common.{◌≡◌, length, map}
use Rattle.std.specs.Ordering.{nat_cmp}
use Rattle.std.specs.Char.{to_ascii_lowercase}
use Rattle.std.specs.Cmp.Lexicographic.{slice_cmp}
use Rattle.dns_base.proofs.alias_table.label_order.Given as goal

abbrev pub invariant-octets : goal.invariant-octets
invariant-octets l =
    slice_cmp nat_cmp (map to_ascii_lowercase l.left) (map to_ascii_lowercase l.right)
    ≡ slice_cmp nat_cmp (map to_ascii_lowercase l.ours) (map to_ascii_lowercase l.theirs)

abbrev pub decreases-octets : goal.decreases-octets
decreases-octets l = length l.ours
