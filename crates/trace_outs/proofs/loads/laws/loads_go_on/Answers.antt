use Rattle.trace_outs.proofs.lemmas.loads.Meeting.{goes_on}
use Rattle.trace_outs.proofs.loads.laws.loads_go_on.Goals as goal

pub returns : goal.returns
returns c = goes_on
