use Rattle.trace_errors.proofs.lemmas.promptness.Hearing.{goes_on}
use Rattle.trace_errors.proofs.promptness.laws.heard_goes_on.Goals as goal

pub returns : goal.returns
returns c = goes_on
