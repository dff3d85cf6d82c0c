use Rattle.trace_outs.proofs.Judging.{tells_start}
use Rattle.trace_outs.proofs.outs.is_start_right.Goals as goal

pub returns : goal.returns
returns c = let a = c.args in tells_start a.point.now a.loads.now a.held.now a.request a.server a.via c.may_start.result c.may_start.ensures.told
