use Rattle.trace_judge.proofs.{Judging.prompt, Telling.if_ok}
use Rattle.trace_judge.proofs.judge.Judge.is_prompt.Goals as goal

pub returns : goal.returns
returns c = if_ok c.is_prompt.result (λ b d. prompt c.args.rules.now c.args.row.now c.args.comings.now c.args.self.now c.trace.result.now b c.trace.ensures d) c.is_prompt.ensures
