use Rattle.trace_errors.proofs.lemmas.owed.Exchanging.{goes_on}
use Rattle.trace_errors.proofs.owed.laws.exchanges_go_on.Goals as goal

pub returns : goal.returns
returns c = goes_on
