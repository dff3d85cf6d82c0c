use Rattle.std.proofs.Common.{ap, refl, ◌∙◌}
use Rattle.std.specs.Prelude.{is_some}
use Rattle.dns_record.specs.Recording.{Recording}
use Rattle.dns_record.proofs.Keeping.{counts, counts_on, ends_so, had_ended, notes, passes, takes_behind, takes_on}
use Rattle.dns_record.proofs.turns.recorded_turn.Goals as goal

pub returns-then-is_some-clause-row : goal.returns-then-is_some-clause-row
returns-then-is_some-clause-row g c =
    takes_behind c.args.recorder.now c.pass.new.self c.is_some.result (g.W.Words.stream c.args.words.now) (g.W.Words.stream c.turn.new.words) c.in_ok-row.row.event c.args.client.now c.in_ok-row.row c.turn.new.client
    (c.is_some.ensures ∙ ap is_some c.ended.ensures) c.if-is_some.true c.in_ok-row.ensures.row (ap (λ (t : Recording). t.words) c.pass.ensures)

pub returns-then-is_some-clause-recorded : goal.returns-then-is_some-clause-recorded
returns-then-is_some-clause-recorded g c =
    passes c.args.recorder.now c.pass.new.self c.is_some.result c.args.client.now c.turn.new.client (g.K.Sink.held c.args.sink.now) c.in_ok-row.row (c.is_some.ensures ∙ ap is_some c.ended.ensures) c.if-is_some.true
    (ap (λ (t : Recording). t.ended) c.pass.ensures)

pub returns-then-is_some-clause-why : goal.returns-then-is_some-clause-why
returns-then-is_some-clause-why g c = λ none. absurd (had_ended c.args.recorder.now.ended c.is_some.result (c.is_some.ensures ∙ ap is_some c.ended.ensures) c.if-is_some.true none)

pub returns-then-is_some-clause-counted : goal.returns-then-is_some-clause-counted
returns-then-is_some-clause-counted g c = counts c.args.recorder.now c.pass.new.self c.is_some.result (c.is_some.ensures ∙ ap is_some c.ended.ensures) c.if-is_some.true c.pass.ensures

pub returns-clause-row : goal.returns-clause-row
returns-clause-row g c =
    rw c.note.ensures.row
    (takes_on c.args.recorder.now c.turn_within.new.recorder c.note.new.self c.is_some.result (g.W.Words.stream c.args.words.now) c.in_ok-row-2.row.event c.args.client.now c.in_ok-row-2.row c.in_ok-row-2.row c.turn_within.new.client
    (c.is_some.ensures ∙ ap is_some c.ended.ensures) c.if-is_some.false c.in_ok-row-2.ensures.row refl c.note.ensures.words)

pub returns-clause-recorded : goal.returns-clause-recorded
returns-clause-recorded g c =
    notes c.args.recorder.now c.turn_within.new.recorder c.note.new.self c.is_some.result c.args.client.now c.turn_within.new.client c.in_ok-row-2.row.event c.in_ok-row-2.row c.note.new.row (g.K.Sink.held c.args.sink.now) (g.K.Sink.held c.note.new.sink)
    (c.is_some.ensures ∙ ap is_some c.ended.ensures) c.if-is_some.false c.in_ok-row-2.ensures.row c.in_ok-row-2.ensures.timeout c.turn_within.ensures.stands c.note.ensures.row c.note.ensures.range c.note.ensures.words c.note.ensures.noted

pub returns-clause-why : goal.returns-clause-why
returns-clause-why g c = λ none.
    ends_so c.args.recorder.now c.turn_within.new.recorder c.note.new.self c.in_ok-row-2.row c.note.new.row (g.K.Sink.faults c.args.sink.now) (g.K.Sink.faults c.note.new.sink) c.turn_within.ensures.stands c.note.ensures.words c.note.ensures.row c.note.ensures.why

pub returns-clause-counted : goal.returns-clause-counted
returns-clause-counted g c = counts_on c.args.recorder.now c.turn_within.new.recorder c.note.new.self c.turn_within.ensures.stands c.note.ensures.counted
