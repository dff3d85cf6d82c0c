use Rattle.std.proofs.Common.{refl}
use Rattle.zone_fetch_run.specs.Ends.{TellsByLine, is_command, is_refused, is_unread}
use Rattle.zone_fetch_run.proofs.Asked.{stop_there, unread_there, zone_there}
use Rattle.zone_fetch_run.proofs.Ended.{ended_stopped, ended_written, not_three, rose_at}
use Rattle.zone_fetch_run.proofs.run.run_fetch.Goals as goal

pub returns-in-Err-Refused-clause-ends : goal.returns-in-Err-Refused-clause-ends
returns-in-Err-Refused-clause-ends g c = is_refused _ (rw c.in-Err-Refused.field-0-is at c.in-Err-Refused.ensures) refl refl

pub returns-in-Err-NoMemory-clause-ends : goal.returns-in-Err-NoMemory-clause-ends
returns-in-Err-NoMemory-clause-ends g c = is_unread refl refl

pub returns-in-Ok-asked-clause-ends : goal.returns-in-Ok-asked-clause-ends
returns-in-Ok-asked-clause-ends g c =
    is_command c.in-Ok.command c.in-Ok.ensures (
    ended_written c.in-Ok.command (g.O.OpenFile.files c.args.opener.now) (g.W.Words.stream c.args.means.now.random) (TellsByLine g.K.Sink.held g.K.Sink.faults c.args.sink.now c.tell_zone.new.sink) c.tell_zone.result.0 _ _ _ _
    c.zone_asked-asked.result.0 c.in-Ok-asked.zone (zone_there _ _ _ _ _ _ _ _ c.zone_asked-asked.result.1 c.in-Ok-asked.zone c.in-Ok-asked.is c.zone_asked-asked.ensures.zone)
    c.tell_zone.ensures.whole (λ four. (c.tell_zone.ensures.begun, c.tell_zone.ensures.failed four)) (λ six. tt) c.tell_zone.ensures.others)

pub returns-in-Ok-asked-clause-unread : goal.returns-in-Ok-asked-clause-unread
returns-in-Ok-asked-clause-unread g c e = absurd (not_three c.tell_zone.result.0 c.tell_zone.ensures.others e)

pub returns-clause-ends : goal.returns-clause-ends
returns-clause-ends g c =
    is_command c.in-Ok.command c.in-Ok.ensures (
    ended_stopped c.in-Ok.command (g.O.OpenFile.files c.args.opener.now) (g.W.Words.stream c.args.means.now.random) (TellsByLine g.K.Sink.held g.K.Sink.faults c.args.sink.now c.tell.new.sink) c.tell.result.0 _ _ _ _
    c.zone_asked-asked.result.0 c.in-Err.stop (stop_there _ _ _ _ _ _ _ _ c.zone_asked-asked.result.1 c.in-Err.stop c.in-Err.is c.zone_asked-asked.ensures.stop)
    c.tell.ensures.status c.tell.ensures.told tt)

pub returns-clause-unread : goal.returns-clause-unread
returns-clause-unread g c e =
    rose_at _ _ c.in-Err.stop (unread_there c.zone_asked-asked.result.1 c.in-Err.stop _ _ c.in-Err.is c.zone_asked-asked.ensures.unread) (c.tell.ensures.unread e)

pub returns-clause-flushed : goal.returns-clause-flushed
returns-clause-flushed g c zero = absurd (c.tell.ensures.some zero)
