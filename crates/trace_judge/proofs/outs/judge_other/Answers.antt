use Rattle.trace_judge.proofs.Saying.{said_other}
use Rattle.trace_judge.proofs.outs.judge_other.Goals as goal

pub returns : goal.returns
returns c = said_other c.args.case.now c.args.course.now c.args.out.now c.in_ok-orders.orders c.in_ok-is_bad.is_bad c.in_ok-mark.mark c.requires c.in_ok-orders.ensures c.in_ok-is_bad.ensures c.in_ok-mark.ensures
