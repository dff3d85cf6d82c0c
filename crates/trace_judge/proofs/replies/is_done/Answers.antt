use Rattle.trace_judge.proofs.{Replying.done, Telling.if_ok}
use Rattle.trace_judge.proofs.replies.is_done.Goals as goal

pub returns : goal.returns
returns c = if_ok c.are_all_done.result (λ b d. done c.args.case.now c.args.course.now c.args.request b d) c.are_all_done.ensures
