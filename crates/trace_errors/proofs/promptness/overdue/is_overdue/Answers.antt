use Rattle.trace_errors.proofs.lemmas.promptness.Delaying.{tells_overdue}
use Rattle.trace_errors.proofs.promptness.overdue.is_overdue.Goals as goal

pub returns-clause-told : goal.returns-clause-told
returns-clause-told c =
    let a = c.args in
    tells_overdue a.conf.now a.settings.now a.request a.moment a.past.now a.heard.now c.find_overdue.result c.find_overdue.ensures
