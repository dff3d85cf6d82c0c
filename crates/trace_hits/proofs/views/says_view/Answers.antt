use Rattle.trace_points.proofs.lemmas.questions.Deciding.{if_ok}
use Rattle.trace_hits.proofs.Viewing.{given_told}
use Rattle.trace_hits.proofs.views.says_view.Goals as goal

pub returns : goal.returns
returns c =
    let a = c.args in
    let v = a.served.now in
    if_ok c.says_aged.result (λ b t. given_told v.kept.now a.given.now v.from v.to v.name.now a.age c.seconds_of.result b c.is_viewable.ensures.octets c.seconds_of.ensures t) c.says_aged.ensures
