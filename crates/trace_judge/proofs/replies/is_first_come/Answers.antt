use Rattle.trace_judge.proofs.Replying.{first_come}
use Rattle.trace_judge.proofs.replies.is_first_come.Goals as goal

pub returns : goal.returns
returns c = first_come c.args.case.now c.args.course.now c.args.request c.args.message.now c.in_ok-came.came c.came_first.result c.in_ok-came.ensures c.came_first.ensures.told
