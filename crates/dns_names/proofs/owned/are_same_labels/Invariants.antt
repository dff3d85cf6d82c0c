use Rattle.std.proofs.Common.{◌≡◌, length}
use Rattle.dns_names.specs.Name.{same_name}
use Rattle.dns_names.proofs.owned.are_same_labels.Given as goal

abbrev pub invariant-labels : goal.invariant-labels
invariant-labels l = same_name l.fn.left l.fn.right ≡ same_name l.left l.right

abbrev pub decreases-labels : goal.decreases-labels
decreases-labels l = length l.left
