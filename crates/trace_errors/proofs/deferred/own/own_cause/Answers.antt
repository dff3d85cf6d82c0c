use Rattle.trace_points.proofs.lemmas.questions.Deciding.{if_ok}
use Rattle.trace_errors.proofs.lemmas.deferred.Owning.{tells_own}
use Rattle.trace_errors.proofs.deferred.own.own_cause.Goals as goal

pub returns : goal.returns
returns c =
    let a = c.args in
    if_ok c.find_own.result
    (λ b d. tells_own a.conf.now a.settings.now a.past.now a.timers.now a.heard.now a.here.now a.outs.now a.earlier.now a.sends.now a.exchanged.now a.what.now a.comings.now a.request a.error b d) c.find_own.ensures
