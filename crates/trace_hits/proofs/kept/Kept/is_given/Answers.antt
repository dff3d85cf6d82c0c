use Rattle.std.proofs.Common.{◌-◌}
use Rattle.trace_points.proofs.lemmas.questions.Deciding.{if_ok}
use Rattle.trace_hits.proofs.Viewing.{given_to}
use Rattle.trace_hits.proofs.kept.Kept.is_given.Goals as goal

pub returns : goal.returns
returns c =
    let a = c.args in
    if_ok c.says_view.result (λ b t. given_to a.question.now (a.moment - a.self.now.moment) c.saturating_sub-age.result a.self.now.message a.message.now b c.saturating_sub-age.ensures t) c.says_view.ensures
