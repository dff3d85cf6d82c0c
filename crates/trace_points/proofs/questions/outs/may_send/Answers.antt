use Rattle.trace_points.proofs.lemmas.questions.Deciding.{if_ok, tells_send}
use Rattle.trace_points.proofs.questions.outs.may_send.Goals as goal

pub returns : goal.returns
returns c =
    let a = c.args in
    if_ok c.is_send_right.result (λ b e. tells_send a.conf.now a.past.now a.here.now a.request a.place a.id a.octets.now b e) c.is_send_right.ensures
