use Rattle.trace_points.proofs.lemmas.questions.Deciding.{if_ok}
use Rattle.trace_errors.proofs.lemmas.promptness.Prompting.{tells_prompt}
use Rattle.trace_errors.proofs.promptness.prompt.is_prompt.Goals as goal

pub returns : goal.returns
returns c =
    let a = c.args in
    if_ok c.find.result (λ b e. tells_prompt a.conf.now a.settings.now a.past.now a.timers.now a.heard.now a.ledger.now a.here.now a.row.now a.comings.now b e) c.find.ensures
