use Rattle.std.proofs.Common.{◌≡◌, length}
use Rattle.dns_base.specs.AliasTable.{name_cmp}
use Rattle.dns_base.proofs.alias_table.name_order.Given as goal

abbrev pub invariant-labels : goal.invariant-labels
invariant-labels l = name_cmp l.left l.right ≡ name_cmp l.ours l.theirs

abbrev pub decreases-labels : goal.decreases-labels
decreases-labels l = length l.ours
