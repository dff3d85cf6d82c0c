use Rattle.std.proofs.Common.{ap, ◌∙◌}
use Rattle.client_core.proofs.Replaying.{row_event}
use Rattle.client_request.specs.Words.{listed}
use Rattle.client_request.specs.declared.event.Row.{Row}
use Rattle.client_steps.specs.Whole.{client_with, machine}
use Rattle.std.specs.Prelude.{is_some}
use Rattle.dns_record.specs.Recording.{Recording}
use Rattle.dns_record.proofs.Keeping.{counts, counts_on, ends_so, had_ended, notes, passes, takes_behind, takes_on}
use Rattle.dns_record.proofs.recorder.Recorder.step.Goals as goal

pub returns-then-is_some-clause-row : goal.returns-then-is_some-clause-row
returns-then-is_some-clause-row g c =
    takes_behind c.args.self.now c.pass.new.self c.is_some.result (g.W.Words.stream c.args.words.now) (g.W.Words.stream c.step.new.words) c.args.event c.args.client.now c.in_ok-row.row c.step.new.self
    (c.is_some.ensures ∙ ap is_some c.ended.ensures) c.if-is_some.true c.in_ok-row.ensures.row (ap (λ (t : Recording). t.words) c.pass.ensures)

pub returns-then-is_some-clause-recorded : goal.returns-then-is_some-clause-recorded
returns-then-is_some-clause-recorded g c =
    passes c.args.self.now c.pass.new.self c.is_some.result c.args.client.now c.step.new.self (g.K.Sink.held c.args.sink.now) c.in_ok-row.row (c.is_some.ensures ∙ ap is_some c.ended.ensures) c.if-is_some.true
    (ap (λ (t : Recording). t.ended) c.pass.ensures)

pub returns-then-is_some-clause-why : goal.returns-then-is_some-clause-why
returns-then-is_some-clause-why g c = λ none. absurd (had_ended c.args.self.now.ended c.is_some.result (c.is_some.ensures ∙ ap is_some c.ended.ensures) c.if-is_some.true none)

pub returns-then-is_some-clause-counted : goal.returns-then-is_some-clause-counted
returns-then-is_some-clause-counted g c = counts c.args.self.now c.pass.new.self c.is_some.result (c.is_some.ensures ∙ ap is_some c.ended.ensures) c.if-is_some.true c.pass.ensures

pub returns-clause-row : goal.returns-clause-row
returns-clause-row g c =
    takes_on c.args.self.now c.take.new.self c.note.new.self c.is_some.result (g.W.Words.stream c.args.words.now) c.args.event c.args.client.now c.in_ok-row-2.row c.note.new.row c.take.new.client
    (c.is_some.ensures ∙ ap is_some c.ended.ensures) c.if-is_some.false c.in_ok-row-2.ensures.row c.note.ensures.row c.note.ensures.words

pub returns-clause-recorded : goal.returns-clause-recorded
returns-clause-recorded g c =
    notes c.args.self.now c.take.new.self c.note.new.self c.is_some.result c.args.client.now c.take.new.client c.args.event c.in_ok-row-2.row c.note.new.row (g.K.Sink.held c.args.sink.now) (g.K.Sink.held c.note.new.sink)
    (c.is_some.ensures ∙ ap is_some c.ended.ensures) c.if-is_some.false c.in_ok-row-2.ensures.row c.in_ok-row-2.ensures.timeout c.take.ensures.stands c.note.ensures.row c.note.ensures.range c.note.ensures.words c.note.ensures.noted

pub returns-clause-why : goal.returns-clause-why
returns-clause-why g c = λ none.
    ends_so c.args.self.now c.take.new.self c.note.new.self c.in_ok-row-2.row c.note.new.row (g.K.Sink.faults c.args.sink.now) (g.K.Sink.faults c.note.new.sink) c.take.ensures.stands c.note.ensures.words c.note.ensures.row c.note.ensures.why

pub returns-clause-counted : goal.returns-clause-counted
returns-clause-counted g c = counts_on c.args.self.now c.take.new.self c.note.new.self c.take.ensures.stands c.note.ensures.counted

pub returns-then-is_some-clause-event : goal.returns-then-is_some-clause-event
returns-then-is_some-clause-event g c =
    row_event machine c.args.client.now.timeout c.in_ok-row.row c.args.event (client_with (g.W.Words.stream c.args.words.now) c.args.client.now) (client_with (g.W.Words.stream c.step.new.words) c.step.new.self) c.in_ok-row.ensures.row

pub returns-clause-event : goal.returns-clause-event
returns-clause-event g c =
    ap (λ (row : Row). row.event) c.note.ensures.row
    ∙ row_event machine c.args.client.now.timeout c.in_ok-row-2.row c.args.event (client_with (listed c.args.self.now.words) c.args.client.now) (client_with (listed c.take.new.self.words) c.take.new.client) c.in_ok-row-2.ensures.row
