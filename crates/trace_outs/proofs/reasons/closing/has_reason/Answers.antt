use Rattle.std.proofs.Common.{sym}
use Rattle.trace_outs.proofs.lemmas.reasons.Telling.{if_ok}
use Rattle.trace_outs.proofs.lemmas.reasons.Shutting.{tells_dgram, tells_stream_reason}
use Rattle.trace_outs.proofs.reasons.closing.has_reason.Goals as goal

pub returns-in-Dgram : goal.returns-in-Dgram
returns-in-Dgram c = let a = c.args in tells_dgram a.number a.point.now c.dgram_closes.result c.in-Some.place.now (sym c.in-Some.ensures) c.in-Dgram.is c.dgram_closes.ensures

pub returns-in-Stream : goal.returns-in-Stream
returns-in-Stream c =
    let a = c.args in
    if_ok c.may_close_stream.result (λ b tells. tells_stream_reason a.number a.point.now b c.in-Some.place.now (sym c.in-Some.ensures) c.in-Stream.is tells) c.may_close_stream.ensures
