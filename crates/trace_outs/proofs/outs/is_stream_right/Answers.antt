use Rattle.trace_outs.proofs.Judging.{tells_stream}
use Rattle.trace_outs.proofs.outs.is_stream_right.Goals as goal

pub returns : goal.returns
returns c = let a = c.args in tells_stream a.point.now a.loads.now a.held.now a.place a.server c.may_open-is_free.result c.may_open_stream-may.result c.both.result c.may_open-is_free.ensures c.may_open_stream-may.ensures.told c.both.ensures
