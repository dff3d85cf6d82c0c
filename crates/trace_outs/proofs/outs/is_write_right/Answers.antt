use Rattle.trace_outs.proofs.Judging.{tells_write}
use Rattle.trace_outs.proofs.outs.is_write_right.Goals as goal

pub returns : goal.returns
returns c = let a = c.args in tells_write a.point.now a.loads.now a.held.now a.request a.place a.id a.octets.now c.in_ok-may.may c.with_server.result c.in_ok-may.ensures c.with_server.ensures
