use Rattle.std.proofs.Common.{sym, ap, ◌∙◌}
use Rattle.std.specs.Prelude.{is_ok}
use Rattle.trace_replies.specs.views.Errors.{GivesError}
use Rattle.trace_replies.proofs.lemmas.views.Among.{no_one}
use Rattle.trace_replies.proofs.lemmas.views.Failing.{a_message, not_below, not_covered, error_told}
use Rattle.trace_replies.proofs.views.errors.Question.is_given_by.Goals as goal

pub returns-in-Ok : goal.returns-in-Ok
returns-in-Ok c recent =
    let v = c.args.self.now in
    let e = c.args.reply.now in
    no_one (GivesError v.settings.now v.request v.moment v.error) v.asks.now e (a_message v.settings.now v.request v.asks.now v.moment v.error e (ap is_ok c.in-Ok.is))

pub returns-then-self-reply : goal.returns-then-self-reply
returns-then-self-reply c recent =
    let v = c.args.self.now in
    let e = c.args.reply.now in
    no_one (GivesError v.settings.now v.request v.moment v.error) v.asks.now e (not_below v.settings.now v.request v.asks.now v.moment v.error e c.if-self-reply.true)

pub returns-then-not-is_covered_by : goal.returns-then-not-is_covered_by
returns-then-not-is_covered_by c recent =
    let v = c.args.self.now in
    let e = c.args.reply.now in
    no_one (GivesError v.settings.now v.request v.moment v.error) v.asks.now e (not_covered v.settings.now v.request v.asks.now v.moment v.error e (sym c.is_covered_by.ensures ∙ c.if-not-is_covered_by.true))

pub returns-else-not-is_covered_by : goal.returns-else-not-is_covered_by
returns-else-not-is_covered_by c recent =
    let v = c.args.self.now in
    let e = c.args.reply.now in
    error_told v.settings.now v.request v.asks.now v.moment v.error e c.in-Err.error c.is_same_error.result c.in-Err.is c.if-self-reply.false (sym c.is_covered_by.ensures ∙ c.if-not-is_covered_by.false) c.is_same_error.ensures recent
