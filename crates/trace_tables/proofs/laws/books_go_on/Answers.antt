use Rattle.trace_tables.proofs.Keeping.{goes_on}
use Rattle.trace_tables.proofs.laws.books_go_on.Goals as goal

pub returns : goal.returns
returns c = goes_on
