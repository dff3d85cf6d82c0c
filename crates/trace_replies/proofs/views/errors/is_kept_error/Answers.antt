use Rattle.std.proofs.Common.{sym, ◌∙◌}
use Rattle.trace_points.proofs.lemmas.questions.Deciding.{if_ok}
use Rattle.trace_replies.proofs.lemmas.views.Failing.{not_here, never_kept, kept_told}
use Rattle.trace_replies.proofs.views.errors.is_kept_error.Goals as goal

pub returns-then-is_deadline : goal.returns-then-is_deadline
returns-then-is_deadline c = let a = c.args in never_kept a.settings.now a.request a.error a.what.now a.requests.now a.earlier.now (sym c.is_deadline.ensures ∙ c.if-is_deadline.true)

pub returns-then-not-is_asked_here : goal.returns-then-not-is_asked_here
returns-then-not-is_asked_here c = let a = c.args in not_here a.settings.now a.request a.error a.what.now a.requests.now a.earlier.now (sym c.is_asked_here.ensures ∙ c.if-not-is_asked_here.true)

pub returns : goal.returns
returns c =
    let a = c.args in
    if_ok c.find.result (λ b t. kept_told a.settings.now a.request a.error a.what.now a.requests.now a.earlier.now b (sym c.is_asked_here.ensures ∙ c.if-not-is_asked_here.false) (sym c.is_deadline.ensures ∙ c.if-is_deadline.false) t) c.find.ensures
