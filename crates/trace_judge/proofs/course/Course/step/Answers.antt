use Rattle.trace_judge.proofs.Stepping.{steps}
use Rattle.trace_judge.proofs.course.Course.step.Goals as goal

pub returns : goal.returns
returns c = steps c.args.case.now c.args.out.now c.in_ok-said.said c.args.self.now c.put.new.self c.in_ok-said.ensures c.in_ok-put.ensures
