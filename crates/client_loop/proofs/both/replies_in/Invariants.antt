use Rattle.std.proofs.Common.{◌≡◌, length}
use Rattle.client_loop.specs.Both.{or_replies, replies_in}
use Rattle.client_loop.proofs.both.replies_in.Given as goal

abbrev pub invariant-loop-out : goal.invariant-loop-out
invariant-loop-out l = or_replies l.replies (replies_in l.fn.number l.left.items) ≡ replies_in l.fn.number l.fn.row.outs

abbrev pub decreases-loop-out : goal.decreases-loop-out
decreases-loop-out l = length l.left.items
