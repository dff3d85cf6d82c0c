use Rattle.trace_outs.proofs.Judging.{tells_resume}
use Rattle.trace_outs.proofs.outs.is_resume_right.Goals as goal

pub returns : goal.returns
returns c = let a = c.args in tells_resume a.point.now a.loads.now a.held.now a.place a.octets.now c.has_server.result c.has_server.ensures
