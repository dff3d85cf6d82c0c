use Rattle.trace_judge.proofs.Saying.{its_mark}
use Rattle.trace_judge.proofs.outs.mark_for.Goals as goal

pub returns : goal.returns
returns c = its_mark c.args.case.now c.args.course.now c.args.request c.in_ok-fails.fails c.in_ok-fails.ensures
