use Rattle.std.proofs.Common.{◌≡◌, [], rules}
use Rattle.stub_resolver.specs.All.{settled}
use Rattle.stub_resolver.proofs.AllReplying.{settled_all, settled_more}
use Rattle.stub_resolver.proofs.all.settled.Goals as goal

pub loop-reply-preserved : goal.loop-reply-preserved
loop-reply-preserved c =
    settled_more (settled c.args.early.items c.args.later.items) c.loop-reply.all.items c.push.new.self.items c.loop-reply.early.items c.pop_front.new.self.items c.loop-reply.later.items c.settled_one.new.later.items
    c.in-Some.reply c.settled_one.result c.loop-reply.invariant c.in-Some.ensures.items c.settled_one.ensures.reply c.settled_one.ensures.left c.in_ok-push.ensures.items

pub returns : goal.returns
returns c =
    let none : c.loop-reply.early.items ≡ [] = search rules in
    settled_all (settled c.args.early.items c.args.later.items) c.loop-reply.all.items c.loop-reply.early.items c.loop-reply.later.items c.loop-reply.invariant none
