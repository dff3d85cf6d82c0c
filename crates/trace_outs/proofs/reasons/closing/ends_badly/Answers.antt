use Rattle.trace_outs.proofs.lemmas.reasons.Streams.{tells_end}
use Rattle.trace_outs.proofs.reasons.closing.ends_badly.Goals as goal

pub returns : goal.returns
returns c = let a = c.args in tells_end a.place a.point.now c.in_ok-is_idle.is_idle c.is_bad_end.result c.in_ok-is_idle.ensures c.is_bad_end.ensures
