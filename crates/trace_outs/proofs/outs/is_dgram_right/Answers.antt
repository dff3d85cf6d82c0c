use Rattle.trace_outs.proofs.Judging.{tells_dgram}
use Rattle.trace_outs.proofs.outs.is_dgram_right.Goals as goal

pub returns : goal.returns
returns c = let a = c.args in tells_dgram a.point.now a.loads.now a.held.now a.place a.server c.may_open.result c.may_open.ensures
