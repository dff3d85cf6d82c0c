use Rattle.trace_outs.proofs.lemmas.loads.Meeting.{tells_met}
use Rattle.trace_outs.proofs.loads.loads.Loads.are_met.Goals as goal

pub returns-clause-told : goal.returns-clause-told
returns-clause-told c = tells_met c.args.self.now c.is_empty.result c.is_empty.ensures
