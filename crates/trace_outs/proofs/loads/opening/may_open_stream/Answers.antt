use Rattle.std.proofs.Common.{not, ap}
use Rattle.trace_outs.proofs.lemmas.loads.Admitting.{tells_open}
use Rattle.trace_outs.proofs.loads.opening.may_open_stream.Goals as goal

pub returns-clause-told : goal.returns-clause-told
returns-clause-told c = let a = c.args in tells_open a.server a.places.now a.loads.now a.held.now (not c.some_blocks_at.result) (ap not c.some_blocks_at.ensures)
