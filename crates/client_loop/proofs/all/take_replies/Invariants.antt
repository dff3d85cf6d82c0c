use Rattle.std.proofs.Common.{◌≡◌, length}
use Rattle.client_loop.specs.All.{of_each, or_each}
use Rattle.client_loop.specs.Replies.{reply_in}
use Rattle.client_loop.proofs.all.take_replies.Given as goal

abbrev pub invariant-loop-out : goal.invariant-loop-out
invariant-loop-out l =
    or_each l.replies.items (of_each (λ k. reply_in k l.left.items) l.fn.number (length l.replies.items))
    ≡ or_each l.fn.replies.items (of_each (λ k. reply_in k l.fn.row.outs) l.fn.number (length l.fn.replies.items))

abbrev pub decreases-loop-out : goal.decreases-loop-out
decreases-loop-out l = length l.left.items
