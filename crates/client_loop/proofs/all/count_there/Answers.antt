use Rattle.std.proofs.Common.{arith, sym, ◌∙◌, ap, None}
use Rattle.std.specs.Prelude.{is_some}
use Rattle.client_loop.proofs.AllReplies.{index_same, there_here, there_more, there_most}
use Rattle.client_loop.proofs.all.count_there.Goals as goal

pub loop-count-preserved : goal.loop-count-preserved
loop-count-preserved c =
    there_more c.args.replies.now c.loop-count.count c.loop-count.invariant c.loop-count-test.true
    (ap is_some (index_same c.args.replies.now c.loop-count.count None c.index-replies-count.result c.loop-count-test.true ∙ sym c.index-replies-count.is) ∙ sym c.is_some.ensures ∙ c.if-is_some.true)

pub returns-else-is_some : goal.returns-else-is_some
returns-else-is_some c =
    there_here c.args.replies.now c.loop-count.count c.loop-count.invariant c.loop-count-test.true
    (ap is_some (index_same c.args.replies.now c.loop-count.count None c.index-replies-count.result c.loop-count-test.true ∙ sym c.index-replies-count.is) ∙ sym c.is_some.ensures ∙ c.if-is_some.false)

pub returns-after-loop-count : goal.returns-after-loop-count
returns-after-loop-count c =
    let most = there_most c.args.replies.now in
    let begun = c.loop-count.invariant in
    let ended = c.loop-count-test.false in
    omega arith
