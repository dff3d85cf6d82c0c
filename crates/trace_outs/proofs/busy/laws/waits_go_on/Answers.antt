use Rattle.trace_outs.proofs.lemmas.busy.Waiting.{goes_on}
use Rattle.trace_outs.proofs.busy.laws.waits_go_on.Goals as goal

pub returns : goal.returns
returns c = goes_on
