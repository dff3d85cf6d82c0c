use Rattle.std.proofs.Common.{Some, sym, subst}
use Rattle.trace_points.specs.exchanges.Coming.{TellsComing}
use Rattle.trace_replies.proofs.lemmas.given.Bringing.{tells_came}
use Rattle.trace_replies.proofs.given.coming.came_for.Goals as goal

pub returns : goal.returns
returns c =
    let a = c.args in
    tells_came a.conf.now a.request a.message.now a.past.now a.sent.now a.here.now c.as_slice.result.now c.some_brings.result
    (subst (TellsComing a.conf.now (Some a.request) a.past.now a.sent.now a.here.now) (sym c.as_slice.ensures) c.in_ok-comings.ensures) c.some_brings.ensures
