use Rattle.trace_points.proofs.lemmas.questions.Deciding.{if_ok}
use Rattle.trace_replies.proofs.lemmas.views.Finding.{supplied_told}
use Rattle.trace_replies.proofs.views.serving.is_supplied.Goals as goal

pub returns : goal.returns
returns c = let a = c.args in if_ok c.find.result (λ b t. supplied_told a.settings.now a.request a.message.now a.requests.now a.earlier.now b t) c.find.ensures
