use Rattle.trace_points.proofs.lemmas.questions.Deciding.{if_ok}
use Rattle.trace_hits.proofs.Telling.{hit_row}
use Rattle.trace_hits.proofs.row.misses_hit.Goals as goal

pub returns-in-Ask : goal.returns-in-Ask
returns-in-Ask c =
    let a = c.args in
    if_ok c.is_missed.result (λ b t. hit_row a.cache.now a.course.now c.in-Ask.request c.as_slice.result.now a.row.now b c.in-Ask.is c.as_slice.ensures t) c.is_missed.ensures
