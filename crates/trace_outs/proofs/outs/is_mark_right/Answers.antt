use Rattle.trace_outs.proofs.Judging.{tells_mark}
use Rattle.trace_outs.proofs.outs.is_mark_right.Goals as goal

pub returns : goal.returns
returns c = let a = c.args in tells_mark a.point.now a.loads.now a.held.now a.request c.has_server.result c.has_server.ensures
