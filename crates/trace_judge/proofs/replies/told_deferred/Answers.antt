use Rattle.std.proofs.Common.{sym, subst}
use Rattle.trace_judge.specs.Replies.{TellsTold}
use Rattle.trace_judge.proofs.Replying.{told_deferred}
use Rattle.trace_judge.proofs.replies.told_deferred.Goals as goal

pub returns : goal.returns
returns c =
    subst (λ b. TellsTold c.args.case.now c.args.course.now c.args.request c.args.message.now (record { fails = c.is_marked_as_failing.result; came_earlier = c.came_earlier.result; is_last = b })) (sym c.holds.ensures)
    (told_deferred c.args.case.now c.args.course.now c.args.request c.args.message.now c.in_ok-first.first c.in_ok-done.done c.is_marked_as_failing.result c.came_earlier.result c.in_ok-first.ensures c.in_ok-done.ensures c.is_marked_as_failing.ensures c.came_earlier.ensures.told)
