use Rattle.std.proofs.Common.{sym, ◌∙◌}
use Rattle.trace_points.proofs.lemmas.questions.Deciding.{if_ok}
use Rattle.trace_replies.proofs.lemmas.views.Finding.{not_here, view_told}
use Rattle.trace_replies.proofs.views.serving.is_view.Goals as goal

pub returns-then-not-is_asked_here : goal.returns-then-not-is_asked_here
returns-then-not-is_asked_here c = let a = c.args in not_here a.settings.now a.request a.message.now a.what.now a.requests.now a.earlier.now (sym c.is_asked_here.ensures ∙ c.if-not-is_asked_here.true)

pub returns : goal.returns
returns c =
    let a = c.args in
    if_ok c.find.result (λ b t. view_told a.settings.now a.request a.message.now a.what.now a.requests.now a.earlier.now b (sym c.is_asked_here.ensures ∙ c.if-not-is_asked_here.false) t) c.find.ensures
