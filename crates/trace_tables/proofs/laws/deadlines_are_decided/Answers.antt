use Rattle.trace_tables.proofs.Asking.{deadline_decides}
use Rattle.trace_tables.proofs.laws.deadlines_are_decided.Goals as goal

pub returns : goal.returns
returns c = deadline_decides
