use Rattle.trace_tables.proofs.lemmas.frames.Writing.{goes_on}
use Rattle.trace_tables.proofs.frames.laws.waiting_goes_on.Goals as goal

pub returns : goal.returns
returns c = goes_on
