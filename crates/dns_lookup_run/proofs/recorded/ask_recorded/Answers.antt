use Rattle.std.proofs.Common.{◌≡◌, ℕ, List, [], ap, inl, refl, sym, subst, arith}
use Rattle.client_steps.specs.Whole.{started_with}
use Rattle.dns_record.specs.Recording as recording
use Rattle.dns_record.specs.Recording.{IsRefused, opening}
use Rattle.dns_record.specs.declared.recorder.Ahead.{Ahead}
use Rattle.dns_lookup_run.specs.Recorded.{AskedEnd}
use Rattle.dns_lookup_run.specs.Worlds.{world}
use Rattle.dns_lookup_run.specs.declared.recorded.Recorded.{Recorded}
use Rattle.dns_lookup_run.proofs.Records.{asked_end, asking_flushed, not_eight, refused_end, refused_status, told_done, told_flushed, told_only, with_ahead}
use Rattle.dns_lookup_run.proofs.recorded.ask_recorded.Goals as goal

pub returns-in-Err-clause-ends : goal.returns-in-Err-clause-ends
returns-in-Err-clause-ends g c =
    let old = world (g.W.Words.stream c.args.rng.now) (g.E.Edge.deeds c.args.edge.now.edge) (g.E.Edge.polls c.args.edge.now.edge) (g.C.Clock.given c.args.clock.now.clock) in
    let new = world (g.W.Words.stream c.with_settings-begun.new.words) (g.E.Edge.deeds c.args.edge.now.edge) (g.E.Edge.polls c.args.edge.now.edge) (g.C.Clock.given c.args.clock.now.clock) in
    subst (λ (r : Recorded g.row.R.Denot). AskedEnd g.L.Sink.held g.L.Sink.faults g.R.Sink.held g.R.Sink.faults c.args.lookup.now c.args.conf.now r.status.0 c.args.errors.now c.tell_unrecorded.new.errors c.args.file r.sink old new) (sym c.without.ensures)
    (refused_end g.L.Sink.held g.L.Sink.faults g.R.Sink.held g.R.Sink.faults c.args.lookup.now c.args.conf.now c.tell_unrecorded.result.0 c.args.errors.now c.tell_unrecorded.new.errors c.args.file c.with_settings-begun.new.sink old new
    c.settings_for-settings.result c.settings_for-settings.ensures c.in-Err.refused
    (with_ahead (λ (ws : List ℕ). IsRefused c.in-Err.refused c.args.conf.now c.settings_for-settings.result.redundant c.settings_for-settings.result.cache c.settings_for-settings.result.transports ws (g.R.Sink.faults c.args.file) (g.R.Sink.faults c.with_settings-begun.new.sink)) old.words c.ahead.result.count c.in-Err.ensures.refused (ap (λ (a : Ahead). a.count) c.ahead.ensures))
    c.tell_unrecorded.ensures.status c.tell_unrecorded.ensures.said)

pub returns-clause-ends : goal.returns-clause-ends
returns-clause-ends g c =
    let old = world (g.W.Words.stream c.args.rng.now) (g.E.Edge.deeds c.args.edge.now.edge) (g.E.Edge.polls c.args.edge.now.edge) (g.C.Clock.given c.args.clock.now.clock) in
    let new = world (g.W.Words.stream c.with_settings-begun.new.words) (g.E.Edge.deeds c.ask_all-status.new.edge.edge) (g.E.Edge.polls c.ask_all-status.new.edge.edge) (g.C.Clock.given c.ask_all-status.new.clock.clock) in
    subst (λ (r : Recorded g.row.R.Denot). AskedEnd g.L.Sink.held g.L.Sink.faults g.R.Sink.held g.R.Sink.faults c.args.lookup.now c.args.conf.now r.status.0 c.args.errors.now c.ask_all-status.new.errors c.args.file r.sink old new) (sym c.with.ensures)
    (asked_end g.L.Sink.held g.L.Sink.faults g.R.Sink.held g.R.Sink.faults c.args.lookup.now c.args.conf.now c.ask_all-status.result.0 c.args.errors.now c.ask_all-status.new.errors c.args.file c.ask_all-status.new.rng.sink old new
    c.settings_for-settings.result c.settings_for-settings.ensures c.in-Ok.recorder c.with_settings-begun.new.sink c.ask_all-status.new.rng refl
    (with_ahead (λ (ws : List ℕ). c.in-Ok.recorder.words ≡ ws) old.words c.ahead.result.count c.in-Ok.ensures.words (ap (λ (a : Ahead). a.count) c.ahead.ensures))
    (with_ahead (λ (ws : List ℕ). recording.Recorded (opening c.args.conf.now c.settings_for-settings.result.redundant c.settings_for-settings.result.cache c.settings_for-settings.result.transports ws (g.R.Sink.held c.args.file)) [] (g.R.Sink.held c.with_settings-begun.new.sink) c.in-Ok.recorder
    (started_with c.settings_for-settings.result.transports c.settings_for-settings.result.redundant c.settings_for-settings.result.cache c.args.conf.now)) old.words c.ahead.result.count c.in-Ok.ensures.begun (ap (λ (a : Ahead). a.count) c.ahead.ensures))
    c.record_law.ensures
    c.ask_all-status.ensures.statuses c.ask_all-status.ensures.ends c.ask_all-status.ensures.quiet c.ask_all-status.ensures.unwritten c.ask_all-status.ensures.stops c.ask_all-status.ensures.made)

pub returns-in-Err-clause-line_flushed : goal.returns-in-Err-clause-line_flushed
returns-in-Err-clause-line_flushed g c = rw c.without.ensures (told_flushed c.tell_unrecorded.result.0 8 _ c.tell_unrecorded.ensures.status c.tell_unrecorded.ensures.flushed)

pub returns-clause-line_flushed : goal.returns-clause-line_flushed
returns-clause-line_flushed g c = rw c.with.ensures (asking_flushed c.ask_all-status.result.0 _ c.ask_all-status.ensures.statuses c.ask_all-status.ensures.line_flushed)

pub returns-in-Err-clause-statuses : goal.returns-in-Err-clause-statuses
returns-in-Err-clause-statuses g c = rw c.without.ensures (refused_status c.tell_unrecorded.result.0 c.tell_unrecorded.ensures.status)

pub returns-in-Err-clause-flushed : goal.returns-in-Err-clause-flushed
returns-in-Err-clause-flushed g c = rw c.without.ensures (told_done c.tell_unrecorded.result.0 _ c.tell_unrecorded.ensures.status)

pub returns-in-Err-clause-sink_fault : goal.returns-in-Err-clause-sink_fault
returns-in-Err-clause-sink_fault g c = rw c.without.ensures (told_only c.tell_unrecorded.result.0 8 4 _ c.tell_unrecorded.ensures.status (λ h. omega arith) (λ h. omega arith))

pub returns-clause-statuses : goal.returns-clause-statuses
returns-clause-statuses g c = rw c.with.ensures (inl c.ask_all-status.ensures.statuses)

pub returns-clause-flushed : goal.returns-clause-flushed
returns-clause-flushed g c = rw c.with.ensures c.ask_all-status.ensures.flushed

pub returns-clause-silent : goal.returns-clause-silent
returns-clause-silent g c = rw c.with.ensures (λ eight. absurd (not_eight c.ask_all-status.result.0 c.ask_all-status.ensures.statuses eight))

pub returns-clause-sink_fault : goal.returns-clause-sink_fault
returns-clause-sink_fault g c = rw c.with.ensures c.ask_all-status.ensures.sink_fault
