use Rattle.trace_judge.proofs.{Judging.same_event, Telling.if_ok}
use Rattle.trace_judge.proofs.judge.Judge.judge_row.Goals as goal

pub returns : goal.returns
returns c =
    if_ok c.judge.result (λ o d. same_event c.args.rules.now c.args.event.now c.args.row.now c.args.self.now c.judge.new.self o (c.is_same_event.ensures.told.0 c.if-not-is_same_event.false) d) c.judge.ensures
