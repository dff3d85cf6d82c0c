use Rattle.trace_tables.proofs.lemmas.writes.Leaving.{goes_on}
use Rattle.trace_tables.proofs.writes.laws.writing_goes_on.Goals as goal

pub returns : goal.returns
returns c = goes_on
