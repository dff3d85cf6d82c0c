use Rattle.std.proofs.Common.{sym, subst}
use Rattle.trace_replies.specs.messages.Message.{TellsMessage}
use Rattle.trace_replies.proofs.lemmas.messages.Deciding.{tells_marked}
use Rattle.trace_replies.proofs.messages.message.Place.judge_marked.Goals as goal

pub returns : goal.returns
returns c =
    let a = c.args in
    let v = a.self.now in
    subst (TellsMessage v.conf.now v.settings.now a.request a.message.now v.what.now v.past.now v.sent.now v.here.now v.earlier.now a.told) (sym c.judge_supplied.ensures)
    (tells_marked v.conf.now v.settings.now a.request a.message.now v.what.now v.past.now v.sent.now v.here.now v.earlier.now a.told c.in_ok-supplied.supplied c.requires c.in_ok-supplied.ensures)
