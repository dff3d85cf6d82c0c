use Rattle.trace_points.proofs.lemmas.questions.Deciding.{if_ok}
use Rattle.trace_errors.proofs.lemmas.owed.Owing.{tells_done}
use Rattle.trace_errors.proofs.owed.owed.are_all_done.Goals as goal

pub returns : goal.returns
returns c =
    let a = c.args in
    if_ok c.find_done.result (λ b d. tells_done a.conf.now a.request a.what.now a.past.now a.here.now a.sends.now a.exchanged.now b d) c.find_done.ensures
