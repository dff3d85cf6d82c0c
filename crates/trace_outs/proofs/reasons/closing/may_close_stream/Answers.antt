use Rattle.trace_outs.proofs.lemmas.reasons.Streams.{tells_stream}
use Rattle.trace_outs.proofs.reasons.closing.may_close_stream.Goals as goal

pub returns : goal.returns
returns c = let a = c.args in tells_stream a.place a.point.now c.in_ok-is_idle.is_idle c.stream_closes_or.result c.in_ok-is_idle.ensures c.stream_closes_or.ensures
