use Rattle.trace_points.proofs.lemmas.questions.Deciding.{if_ok}
use Rattle.trace_hits.proofs.Telling.{hit_none, hit_told}
use Rattle.trace_hits.proofs.row.is_missed.Goals as goal

pub returns-in_default-get : goal.returns-in_default-get
returns-in_default-get c =
    let a = c.args in
    hit_none a.cache.now a.course.now a.message.now a.outs.now c.in-Some.question (rw c.in-Some.is at c.in_ok-question.ensures) c.in_default-get.ensures

pub returns : goal.returns
returns c =
    let a = c.args in
    if_ok c.is_missed_of.result
    (λ b t. hit_told a.cache.now a.course.now a.message.now a.outs.now c.in-Some.question (rw c.in-Some.is at c.in_ok-question.ensures) c.in-Some-get.kept.now c.in-Some-get.ensures b t)
    c.is_missed_of.ensures
