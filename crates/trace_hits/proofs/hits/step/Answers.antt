use Rattle.std.proofs.Common.{subst}
use Rattle.trace_hits.specs.Course.{PutsAll}
use Rattle.trace_hits.specs.Row.{Hit, Whatever}
use Rattle.trace_hits.proofs.Stepping.{steps}
use Rattle.trace_hits.proofs.hits.step.Goals as goal

pub returns : goal.returns
returns c =
    let a = c.args in
    steps (Hit a.cache.now) Whatever a.cache.now a.row.now a.course.now c.meet.new.self c.put_all.new.self c.in_ok-missed.missed (λ c s x rows behind right left. tt) c.in_ok-meet.ensures c.in_ok-missed.ensures
    (subst (λ os. PutsAll a.cache.now os c.meet.new.self c.put_all.new.self) c.as_slice.ensures c.in_ok-put_all.ensures)
