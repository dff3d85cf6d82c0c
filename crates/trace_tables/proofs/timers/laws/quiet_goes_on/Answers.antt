use Rattle.trace_tables.proofs.lemmas.timers.Quieting.{goes_on}
use Rattle.trace_tables.proofs.timers.laws.quiet_goes_on.Goals as goal

pub returns : goal.returns
returns c = goes_on
