use Rattle.trace_points.proofs.lemmas.questions.Deciding.{if_ok}
use Rattle.trace_hits.proofs.Telling.{stale_row}
use Rattle.trace_hits.proofs.serving.misses_stale.Goals as goal

pub returns-in-Ask : goal.returns-in-Ask
returns-in-Ask c =
    let a = c.args in
    if_ok c.is_unserved.result (λ b t. stale_row a.cache.now a.failures.now a.course.now c.in-Ask.request c.as_slice.result.now a.row.now b c.in-Ask.is c.as_slice.ensures t) c.is_unserved.ensures
