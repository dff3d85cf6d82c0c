use Rattle.trace_outs.proofs.lemmas.reasons.Shutting.{tells_close}
use Rattle.trace_outs.proofs.reasons.closing.may_close.Goals as goal

pub returns : goal.returns
returns c = let a = c.args in tells_close a.place a.point.now c.in_ok-reason.reason c.may_close_for.result c.in_ok-reason.ensures c.may_close_for.ensures
