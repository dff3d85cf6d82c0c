use Rattle.trace_points.proofs.lemmas.exchanges.Opening.{goes_on}
use Rattle.trace_points.proofs.exchanges.laws.open_sends_go_on.Goals as goal

pub returns : goal.returns
returns c = goes_on
