use Rattle.std.proofs.Common.{◌≡◌, ◌++◌, drop}
use Rattle.stub_resolver.specs.All.{gots_of}
use Rattle.stub_resolver.proofs.all.gots_of.Given as goal

-- What the questions that are left get is still to come.
abbrev pub invariant-loop-is_asked : goal.invariant-loop-is_asked
invariant-loop-is_asked l = gots_of l.asked l.fn.replies.items ≡ l.gots.items ++ gots_of (drop l.is_asked-index l.asked) l.left.items
