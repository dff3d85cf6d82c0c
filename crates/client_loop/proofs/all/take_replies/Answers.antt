use Rattle.std.proofs.Common.{◌≡◌, [], length, rules}
use Rattle.client_loop.specs.All.{of_each, or_each}
use Rattle.client_loop.specs.Replies.{reply_in}
use Rattle.client_loop.proofs.AllReplies.{put_all, put_more}
use Rattle.client_loop.proofs.all.take_replies.Goals as goal

pub loop-out-preserved : goal.loop-out-preserved
loop-out-preserved c =
    put_more c.args.number c.in-Some.out c.pop_front.new.self.items c.loop-out.left.items c.loop-out.replies.items c.take_reply.new.replies.items
    (or_each c.args.replies.now.items (of_each (λ k. reply_in k c.args.row.outs) c.args.number (length c.args.replies.now.items)))
    c.take_reply.ensures c.in-Some.ensures.items c.loop-out.invariant

pub returns : goal.returns
returns c =
    let none : c.loop-out.left.items ≡ [] = search rules in
    put_all c.args.number c.loop-out.left.items c.loop-out.replies.items
    (or_each c.args.replies.now.items (of_each (λ k. reply_in k c.args.row.outs) c.args.number (length c.args.replies.now.items))) none c.loop-out.invariant
