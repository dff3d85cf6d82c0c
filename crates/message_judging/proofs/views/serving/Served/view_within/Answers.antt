use Rattle.std.proofs.Common.{sym, ap, ◌∙◌}
use Rattle.message_judging.specs.views.Serving.{is_within, Late}
use Rattle.message_judging.proofs.views.serving.Served.view_within.Goals as goal

pub returns-else-is_within : goal.returns-else-is_within
returns-else-is_within c =
    let a = c.args in
    Late c.in-Some.view (rw c.in-Some.is at c.in_ok-view.ensures) (ap (is_within a.more a.age) (sym c.in_ok-validity_of.ensures) ∙ (sym c.is_within.ensures ∙ c.if-is_within.false))
