use Rattle.trace_points.proofs.lemmas.causes.Blaming.{tells_too_many}
use Rattle.trace_points.proofs.causes.failing.has_too_many.Goals as goal

pub returns : goal.returns
returns c = let a = c.args in tells_too_many a.request a.books.now c.find_too_many.result c.find_too_many.ensures
