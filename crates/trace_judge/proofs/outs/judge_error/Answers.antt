use Rattle.trace_judge.proofs.Saying.{said_error}
use Rattle.trace_judge.proofs.outs.judge_error.Goals as goal

pub returns : goal.returns
returns c = said_error c.args.case.now c.args.course.now c.args.request c.args.error c.in_ok-causes.causes c.in_ok-given.given c.is_first-firsts.result c.in_ok-causes.ensures c.in_ok-given.ensures c.is_first-firsts.ensures.told
