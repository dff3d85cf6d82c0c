use Rattle.trace_judge.proofs.Saying.{said_ok}
use Rattle.trace_judge.proofs.outs.judge_ok.Goals as goal

pub returns : goal.returns
returns c = said_ok c.args.case.now c.args.course.now c.args.request c.args.message.now c.in_ok-judged.judged c.is_first-firsts.result c.in_ok-judged.ensures c.is_first-firsts.ensures.told
