use Rattle.trace_judge.proofs.{Replying.message, Telling.if_ok}
use Rattle.trace_judge.proofs.replies.judge_message.Goals as goal

pub returns : goal.returns
returns c = if_ok c.judge.result (λ j d. message c.args.case.now c.args.course.now c.args.request c.args.message.now c.in_ok-told.told j c.in_ok-told.ensures d) c.judge.ensures
