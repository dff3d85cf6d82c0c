use Rattle.std.proofs.Common.{refl, arith}
use Rattle.zone_fetch_run.specs.Ends.{TellsBySentence, is_out, sight}
use Rattle.zone_fetch_run.proofs.Asked.{stop_there, unread_there, zone_there}
use Rattle.zone_fetch_run.proofs.Ended.{ended_stopped, ended_written, handed_on_written, not_three, rose_at, told_at, told_unless, written_statuses}
use Rattle.zone_fetch_run.proofs.Said.{flushed_or_rose, kept_at_four, no_zero_at_six, spared_of, spared_same, still_told}
use Rattle.zone_fetch_run.proofs.run.fetch_for.Goals as goal

pub returns-in_default-clause-ends : goal.returns-in_default-clause-ends
returns-in_default-clause-ends g c words = is_out c.tell_no_memory.ensures (spared_same c.args.command.now.output _, refl)

pub returns-in-Ok-asked-clause-ends : goal.returns-in-Ok-asked-clause-ends
returns-in-Ok-asked-clause-ends g c words =
    ended_written c.args.command.now (g.O.OpenFile.files c.args.world.now.opener) (g.W.Words.stream c.args.world.now.means.random)
    (TellsBySentence words (sight g.K.Sink.held g.K.Sink.flushed g.K.Sink.faults g.F.Replacing.placed g.F.Replacing.faults g.L.Sink.held g.L.Sink.faults (c.args.sink.now, c.args.world.now.files, c.args.errors.now))
    (sight g.K.Sink.held g.K.Sink.flushed g.K.Sink.faults g.F.Replacing.placed g.F.Replacing.faults g.L.Sink.held g.L.Sink.faults (c.put_zone-status.new.sink, c.put_zone-status.new.files, c.tell_written.new.errors))) c.tell_written.result.0 _ _ _ _
    c.zone_asked-detour.result.0 c.in-Ok-asked.zone (zone_there _ _ _ _ _ _ _ _ c.zone_asked-detour.result.1 c.in-Ok-asked.zone c.in-Ok-asked.is c.zone_asked-detour.ensures.zone)
    (λ zero. (
      told_at c.tell_written.result c.put_zone-status.result 0 _ c.tell_written.ensures.status (λ h. omega arith) c.put_zone-status.ensures.whole zero,
      still_told _ _ _ _ _ _ _ (c.tell_written.ensures.quiet zero) c.in-Ok.ensures.told,
    ))
    (λ four. (
      told_at c.tell_written.result c.put_zone-status.result 4 _ c.tell_written.ensures.status (λ h. omega arith) c.put_zone-status.ensures.failed four,
      c.put_zone-status.ensures.part,
      told_at c.tell_written.result c.put_zone-status.result 4 _ c.tell_written.ensures.status (λ h. omega arith) (kept_at_four c.put_zone-status.result.0 _ c.put_zone-status.ensures.kept) four,
      record { mid = g.L.Sink.held c.tell_detour.new.errors; faults_mid = g.L.Sink.faults c.tell_detour.new.errors; first_told = c.in-Ok.ensures.told; second_told = c.tell_written.ensures.said four },
    ))
    (λ six. (
      spared_of c.args.command.now.output _ _ _ _ c.put_zone-status.ensures.part,
      told_unless c.tell_written.result c.put_zone-status.result _ c.tell_written.ensures.status c.put_zone-status.ensures.kept (no_zero_at_six c.tell_written.result.0 six),
    ))
    (written_statuses c.tell_written.result c.put_zone-status.result c.tell_written.ensures.status c.put_zone-status.ensures.others)

pub returns-in-Ok-asked-clause-unread : goal.returns-in-Ok-asked-clause-unread
returns-in-Ok-asked-clause-unread g c e =
    absurd (not_three c.tell_written.result.0 (written_statuses c.tell_written.result c.put_zone-status.result c.tell_written.ensures.status c.put_zone-status.ensures.others) e)

pub returns-in-Ok-asked-clause-unplaced : goal.returns-in-Ok-asked-clause-unplaced
returns-in-Ok-asked-clause-unplaced g c no_zero = told_unless c.tell_written.result c.put_zone-status.result _ c.tell_written.ensures.status c.put_zone-status.ensures.kept no_zero

pub returns-in-Ok-asked-clause-handed_on : goal.returns-in-Ok-asked-clause-handed_on
returns-in-Ok-asked-clause-handed_on g c no_zero no_six =
    flushed_or_rose _ _ _ _ c.tell_detour.ensures.count
    (handed_on_written c.tell_written.result.0 _ (written_statuses c.tell_written.result c.put_zone-status.result c.tell_written.ensures.status c.put_zone-status.ensures.others) c.tell_written.ensures.flushed no_zero no_six)

pub returns-in-Err-clause-ends : goal.returns-in-Err-clause-ends
returns-in-Err-clause-ends g c words =
    ended_stopped c.args.command.now (g.O.OpenFile.files c.args.world.now.opener) (g.W.Words.stream c.args.world.now.means.random)
    (TellsBySentence words (sight g.K.Sink.held g.K.Sink.flushed g.K.Sink.faults g.F.Replacing.placed g.F.Replacing.faults g.L.Sink.held g.L.Sink.faults (c.args.sink.now, c.args.world.now.files, c.args.errors.now))
    (sight g.K.Sink.held g.K.Sink.flushed g.K.Sink.faults g.F.Replacing.placed g.F.Replacing.faults g.L.Sink.held g.L.Sink.faults (c.args.sink.now, c.args.world.now.files, c.tell_stop.new.errors))) c.tell_stop.result.0 _ _ _ _
    c.zone_asked-detour.result.0 c.in-Err.stop (stop_there _ _ _ _ _ _ _ _ c.zone_asked-detour.result.1 c.in-Err.stop c.in-Err.is c.zone_asked-detour.ensures.stop)
    c.tell_stop.ensures.status
    (λ no_six. (
      refl,
      refl,
      record { mid = g.L.Sink.held c.tell_detour.new.errors; faults_mid = g.L.Sink.faults c.tell_detour.new.errors; first_told = c.in-Ok.ensures.told; second_told = c.tell_stop.ensures.said no_six },
    ))
    (spared_same c.args.command.now.output _, refl)

pub returns-in-Err-clause-unread : goal.returns-in-Err-clause-unread
returns-in-Err-clause-unread g c e =
    rose_at _ _ c.in-Err.stop (unread_there c.zone_asked-detour.result.1 c.in-Err.stop _ _ c.in-Err.is c.zone_asked-detour.ensures.unread) (c.tell_stop.ensures.unread e)

pub returns-in-Err-clause-handed_on : goal.returns-in-Err-clause-handed_on
returns-in-Err-clause-handed_on g c no_zero no_six = flushed_or_rose _ _ _ _ c.tell_detour.ensures.count (c.tell_stop.ensures.flushed no_six)
