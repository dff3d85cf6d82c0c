use Rattle.trace_outs.proofs.lemmas.reasons.Beginning.{tells_start}
use Rattle.trace_outs.proofs.reasons.starting.may_start.Goals as goal

pub returns-clause-told : goal.returns-clause-told
returns-clause-told c = let a = c.args in tells_start a.request a.server a.via a.point.now c.starts.result c.starts.ensures
