use Rattle.trace_points.proofs.lemmas.pass.Taking.{goes_on}
use Rattle.trace_points.proofs.pass.laws.passes_go_on.Goals as goal

pub returns : goal.returns
returns c = goes_on
