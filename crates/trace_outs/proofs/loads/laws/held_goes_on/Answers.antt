use Rattle.trace_outs.proofs.lemmas.loads.Holding.{goes_on}
use Rattle.trace_outs.proofs.loads.laws.held_goes_on.Goals as goal

pub returns : goal.returns
returns c = goes_on
