use Rattle.trace_points.proofs.lemmas.questions.Deciding.{if_ok}
use Rattle.trace_points.proofs.lemmas.questions.StreamDeciding.{tells_write}
use Rattle.trace_points.proofs.questions.streams.may_write.Goals as goal

pub returns : goal.returns
returns c =
    let a = c.args in
    if_ok c.is_write_right.result (λ b e. tells_write a.conf.now a.past.now a.here.now a.request a.place a.id a.octets.now b e) c.is_write_right.ensures
