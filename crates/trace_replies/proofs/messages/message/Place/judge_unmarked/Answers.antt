use Rattle.std.proofs.Common.{sym, subst, ap, ◌∙◌}
use Rattle.right_trace.specs.{Settings.Settings, Validity.is_deferred}
use Rattle.trace_replies.specs.messages.Message.{TellsMessage}
use Rattle.trace_replies.proofs.lemmas.messages.Deciding.{tells_deferred}
use Rattle.trace_replies.proofs.messages.message.Place.judge_unmarked.Goals as goal

pub returns : goal.returns
returns c =
    let a = c.args in
    let v = a.self.now in
    subst (TellsMessage v.conf.now v.settings.now a.request a.message.now v.what.now v.past.now v.sent.now v.here.now v.earlier.now a.told) (sym c.judge_came.ensures)
    (tells_deferred v.conf.now v.settings.now a.request a.message.now v.what.now v.past.now v.sent.now v.here.now v.earlier.now a.told c.is_deferred-deferred.result c.in_ok-came.came c.in_ok-view.view c.requires (c.is_deferred-deferred.ensures ∙ ap (λ (s : Settings). is_deferred s a.message.now) c.trace.ensures) c.in_ok-came.ensures c.in_ok-view.ensures)
