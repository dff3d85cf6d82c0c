use Rattle.std.proofs.Common.{◌≡◌, ◌++◌, length}
use Rattle.stub_resolver.specs.All.{settled}
use Rattle.stub_resolver.proofs.all.settled.Given as goal

-- Those of the replies that are left are still to come.
abbrev pub invariant-loop-reply : goal.invariant-loop-reply
invariant-loop-reply l = settled l.fn.early.items l.fn.later.items ≡ l.all.items ++ settled l.early.items l.later.items

abbrev pub decreases-loop-reply : goal.decreases-loop-reply
decreases-loop-reply l = length l.early.items
