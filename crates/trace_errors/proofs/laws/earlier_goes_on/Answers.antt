use Rattle.trace_errors.proofs.Telling.{goes_on}
use Rattle.trace_errors.proofs.laws.earlier_goes_on.Goals as goal

pub returns : goal.returns
returns c = goes_on
