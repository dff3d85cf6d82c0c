use Rattle.trace_tables.proofs.lemmas.idle.Telling.{goes_on}
use Rattle.trace_tables.proofs.idle.laws.idle_goes_on.Goals as goal

pub returns : goal.returns
returns c = goes_on
