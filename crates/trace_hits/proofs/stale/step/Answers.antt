use Rattle.std.proofs.Common.{subst}
use Rattle.trace_hits.specs.Course.{PutsAll}
use Rattle.trace_hits.specs.Serving.{Serve, KnowFailures}
use Rattle.trace_hits.proofs.{Never.failures_go_on, Stepping.steps}
use Rattle.trace_hits.proofs.stale.step.Goals as goal

pub returns : goal.returns
returns c =
    let a = c.args in
    steps (Serve a.cache.now) (KnowFailures a.cache.now a.failures.now) a.cache.now a.row.now a.course.now c.meet.new.self c.put_all.new.self c.in_ok-missed.missed (λ c s x rows behind right left. failures_go_on a.cache.now a.failures.now c s x a.row.now rows behind right left) c.in_ok-meet.ensures c.in_ok-missed.ensures
    (subst (λ os. PutsAll a.cache.now os c.meet.new.self c.put_all.new.self) c.as_slice.ensures c.in_ok-put_all.ensures)
