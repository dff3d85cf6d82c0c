use Rattle.trace_judge.proofs.{Replying.kept, Telling.if_ok}
use Rattle.trace_judge.proofs.replies.is_kept.Goals as goal

pub returns : goal.returns
returns c = if_ok c.is_kept_error.result (λ b d. kept c.args.case.now c.args.course.now c.args.request c.args.error b d) c.is_kept_error.ensures
