use Rattle.std.proofs.Common.{sym, ap, subst, ◌∙◌}
use Rattle.std.specs.Prelude.{is_ok}
use Rattle.trace_points.proofs.lemmas.questions.Deciding.{if_ok}
use Rattle.trace_replies.specs.views.Serving.{Gives, TellsKept}
use Rattle.trace_replies.proofs.lemmas.views.Among.{no_one}
use Rattle.trace_replies.proofs.lemmas.views.Giving.{no_message, not_below, not_covered, one_told}
use Rattle.trace_replies.proofs.views.serving.Question.is_given_by.Goals as goal

pub returns-in-Err : goal.returns-in-Err
returns-in-Err c =
    let v = c.args.self.now in
    let e = c.args.reply.now in
    no_one (Gives v.manner v.settings.now v.request v.moment v.message.now) v.asks.now e (no_message v.manner v.settings.now v.request v.asks.now v.moment v.message.now e (ap is_ok c.in-Err.is))

pub returns-then-self-reply : goal.returns-then-self-reply
returns-then-self-reply c =
    let v = c.args.self.now in
    let e = c.args.reply.now in
    no_one (Gives v.manner v.settings.now v.request v.moment v.message.now) v.asks.now e (not_below v.manner v.settings.now v.request v.asks.now v.moment v.message.now e c.if-self-reply.true)

pub returns-then-not-is_covered_by : goal.returns-then-not-is_covered_by
returns-then-not-is_covered_by c =
    let v = c.args.self.now in
    let e = c.args.reply.now in
    no_one (Gives v.manner v.settings.now v.request v.moment v.message.now) v.asks.now e (not_covered v.manner v.settings.now v.request v.asks.now v.moment v.message.now e (sym c.is_covered_by.ensures ∙ c.if-not-is_covered_by.true))

pub returns-else-not-is_covered_by : goal.returns-else-not-is_covered_by
returns-else-not-is_covered_by c =
    let v = c.args.self.now in
    let e = c.args.reply.now in
    if_ok c.is_given_of.result
    (λ b t. one_told v.manner v.settings.now v.request v.asks.now v.moment v.message.now e c.in-Ok.kept b c.in-Ok.is c.if-self-reply.false (sym c.is_covered_by.ensures ∙ c.if-not-is_covered_by.false)
    (subst (λ n. TellsKept v.manner v.settings.now v.asks.now v.message.now c.in-Ok.kept e.flags n b) c.saturating_sub-age.ensures t))
    c.is_given_of.ensures
