use Rattle.trace_tables.proofs.lemmas.sets.Keeping.{goes_on}
use Rattle.trace_tables.proofs.sets.laws.sets_go_on.Goals as goal

pub returns : goal.returns
returns c = goes_on
