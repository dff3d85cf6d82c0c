use Rattle.std.proofs.Common.{refl}
use Rattle.zone_fetch_run.specs.Ends.{TellsBySentence, is_command, is_unread, sight}
use Rattle.zone_fetch_run.proofs.Ended.{ended_refused, handed_on_at}
use Rattle.zone_fetch_run.proofs.run.fetch_to.Goals as goal

pub returns-in-Ok-clause-ends : goal.returns-in-Ok-clause-ends
returns-in-Ok-clause-ends g c = is_command c.in-Ok.command c.in-Ok.ensures (c.fetch_for.ensures.ends c.args.words.now)

pub returns-in-Err-Refused-clause-ends : goal.returns-in-Err-Refused-clause-ends
returns-in-Err-Refused-clause-ends g c =
    ended_refused c.args.words.now (g.O.OpenFile.files c.args.world.now.opener) (g.W.Words.stream c.args.world.now.means.random)
    (TellsBySentence c.args.words.now (sight g.K.Sink.held g.K.Sink.flushed g.K.Sink.faults g.F.Replacing.placed g.F.Replacing.faults g.L.Sink.held g.L.Sink.faults (c.args.sink.now, c.args.world.now.files, c.args.errors.now))
    (sight g.K.Sink.held g.K.Sink.flushed g.K.Sink.faults g.F.Replacing.placed g.F.Replacing.faults g.L.Sink.held g.L.Sink.faults (c.args.sink.now, c.args.world.now.files, c.tell_refusal.new.errors))) c.tell_refusal.result.0 _ _ _ _
    c.in-Err-Refused.refusal (rw c.in-Err-Refused.field-0-is at c.in-Err-Refused.ensures) c.tell_refusal.ensures.status (λ two. (refl, refl, c.tell_refusal.ensures.said two)) (refl, refl)

pub returns-in-Err-Refused-clause-handed_on : goal.returns-in-Err-Refused-clause-handed_on
returns-in-Err-Refused-clause-handed_on g c no_zero no_six = handed_on_at c.tell_refusal.result.0 2 _ c.tell_refusal.ensures.status c.tell_refusal.ensures.flushed no_six

pub returns-in-Err-NoMemory-clause-ends : goal.returns-in-Err-NoMemory-clause-ends
returns-in-Err-NoMemory-clause-ends g c = is_unread c.tell_no_memory.ensures (refl, refl)
