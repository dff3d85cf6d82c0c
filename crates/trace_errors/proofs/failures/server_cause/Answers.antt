use Rattle.trace_points.proofs.lemmas.questions.Deciding.{if_ok}
use Rattle.trace_errors.proofs.Caused.{tells_server}
use Rattle.trace_errors.proofs.failures.server_cause.Goals as goal

pub returns : goal.returns
returns c =
    let a = c.args in
    if_ok c.find.result (λ b t. tells_server a.conf.now a.past.now a.heard.now a.here.now a.what.now a.comings.now a.request a.error b t) c.find.ensures
