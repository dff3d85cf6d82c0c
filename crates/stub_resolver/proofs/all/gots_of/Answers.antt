use Rattle.std.proofs.Common.{false, get_or, refl}
use Rattle.stub_resolver.specs.All.{gots_of}
use Rattle.stub_resolver.proofs.AllReplying.{got_more}
use Rattle.stub_resolver.proofs.all.gots_of.Goals as goal

pub loop-is_asked-preserved : goal.loop-is_asked-preserved
loop-is_asked-preserved c =
    got_more (gots_of c.args.asked.now c.args.replies.items) c.loop-is_asked.gots.items c.push.new.self.items c.args.asked.now c.loop-is_asked.is_asked-index (get_or c.args.asked.now c.loop-is_asked.is_asked-index false) false c.loop-is_asked.left.items
    c.next_got.new.replies.items c.next_got.result c.loop-is_asked.invariant c.loop-is_asked-test.true refl c.next_got.ensures.got c.next_got.ensures.left c.in_ok-push.ensures.items
