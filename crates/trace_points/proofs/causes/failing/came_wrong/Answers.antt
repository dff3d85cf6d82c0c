use Rattle.trace_points.proofs.lemmas.causes.Blaming.{tells_wrong}
use Rattle.trace_points.proofs.causes.failing.came_wrong.Goals as goal

pub returns-clause-told : goal.returns-clause-told
returns-clause-told c = let a = c.args in λ want. tells_wrong want a.request a.comings.now c.some_wrong.result c.some_wrong.ensures
