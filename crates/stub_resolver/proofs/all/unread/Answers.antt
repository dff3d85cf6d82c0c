use Rattle.stub_resolver.specs.All.{unread}
use Rattle.stub_resolver.proofs.AllReplying.{none_left, unread_more}
use Rattle.std.proofs.Common.{◌≡◌, [], drop, rules}
use Rattle.stub_resolver.proofs.all.unread.Goals as goal

pub loop-reply-preserved : goal.loop-reply-preserved
loop-reply-preserved c =
    unread_more (unread c.args.requests.items c.args.replies.now) c.loop-reply.all.items c.push_unread.new.all.items c.loop-reply.left.items c.pop_front.new.self.items c.in-Some.request c.args.replies.now
    c.loop-reply.reply-index c.reply-item.result c.loop-reply.invariant c.in-Some.ensures.items c.loop-reply-test.true c.reply-item.is c.in_ok-push_unread-in-Some.ensures

pub returns-in-None : goal.returns-in-None
returns-in-None c =
    let none : c.loop-reply.left.items ≡ [] = search rules in
    none_left (unread c.args.requests.items c.args.replies.now) c.loop-reply.all.items c.loop-reply.left.items (drop c.loop-reply.reply-index c.args.replies.now) c.loop-reply.invariant none
