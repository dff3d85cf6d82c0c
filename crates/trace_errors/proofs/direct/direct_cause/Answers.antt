use Rattle.trace_points.proofs.lemmas.questions.Deciding.{if_ok}
use Rattle.trace_errors.proofs.Directing.{tells_direct}
use Rattle.trace_errors.proofs.direct.direct_cause.Goals as goal

pub returns : goal.returns
returns c =
    let a = c.args in
    if_ok c.find_direct.result (λ b d. tells_direct a.conf.now a.settings.now a.past.now a.heard.now a.here.now a.earlier.now a.what.now a.comings.now a.request a.error b d) c.find_direct.ensures
