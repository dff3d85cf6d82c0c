use Rattle.trace_points.proofs.lemmas.due.Keeping.{goes_on}
use Rattle.trace_points.proofs.due.laws.timers_go_on.Goals as goal

pub returns : goal.returns
returns c = goes_on
