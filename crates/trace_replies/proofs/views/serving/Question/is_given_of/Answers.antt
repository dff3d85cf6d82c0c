use Rattle.std.proofs.Common.{sym, subst}
use Rattle.trace_points.proofs.lemmas.questions.Deciding.{if_ok}
use Rattle.trace_replies.specs.views.Serving.{TellsKept}
use Rattle.trace_replies.proofs.lemmas.views.Giving.{valid_told, expired_told}
use Rattle.trace_replies.proofs.views.serving.Question.is_given_of.Goals as goal

pub returns-in-Valid : goal.returns-in-Valid
returns-in-Valid c =
    let a = c.args in
    let v = a.self.now in
    if_ok c.is_view.result
    (λ b t. subst (λ u. TellsKept u v.settings.now v.asks.now v.message.now a.kept.now a.reply.now.flags a.age b) (sym c.in-Valid.is) (valid_told c.cache-cache.result.now v.settings.now v.asks.now v.message.now a.kept.now a.reply.now.flags a.age b c.cache-cache.ensures t))
    c.is_view.ensures

pub returns : goal.returns
returns c =
    let a = c.args in
    let v = a.self.now in
    if_ok c.is_stale.result
    (λ b t. subst (λ u. TellsKept u v.settings.now v.asks.now v.message.now a.kept.now a.reply.now.flags a.age b) (sym c.in-Expired.is) (expired_told c.cache-cache.result.now v.settings.now v.asks.now v.message.now a.kept.now a.reply.now.flags a.age b c.cache-cache.ensures t))
    c.is_stale.ensures
