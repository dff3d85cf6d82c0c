use Rattle.trace_points.proofs.lemmas.exchanges.Asking.{right_rows_ask}
use Rattle.trace_points.proofs.exchanges.laws.right_rows_ask.Goals as goal

pub returns : goal.returns
returns c = right_rows_ask
