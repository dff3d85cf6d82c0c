use Rattle.std.proofs.Common.{◌≡◌, ◌++◌, length}
use Rattle.stub_resolver.specs.All.{all_found}
use Rattle.stub_resolver.proofs.lookups.all_found.Given as goal

-- What the hosts that are left get is still to come.
abbrev pub invariant-loop-a : goal.invariant-loop-a
invariant-loop-a g l = all_found l.fn.gots.items ≡ l.found.items ++ all_found l.left.items

abbrev pub decreases-loop-a : goal.decreases-loop-a
decreases-loop-a g l = length l.left.items
