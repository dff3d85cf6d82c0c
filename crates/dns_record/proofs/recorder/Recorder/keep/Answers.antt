use Rattle.std.proofs.Common.{ap, refl, ◌∙◌}
use Rattle.std.specs.Prelude.{is_some}
use Rattle.dns_record.specs.Recording.{Recording}
use Rattle.dns_record.proofs.Keeping.{notes, passes}
use Rattle.dns_record.proofs.recorder.Recorder.keep.Goals as goal

pub returns-then-is_some-clause-kept : goal.returns-then-is_some-clause-kept
returns-then-is_some-clause-kept g c = λ client moved event before step timeout.
    passes (record c.args.self.now { words = before }) c.pass.new.self c.is_some.result client moved (g.K.Sink.held c.args.sink.now) c.args.row.now (c.is_some.ensures ∙ ap is_some c.ended.ensures) c.if-is_some.true
    (ap (λ (t : Recording). t.ended) c.pass.ensures)

pub returns-clause-kept : goal.returns-clause-kept
returns-clause-kept g c = λ client moved event before step timeout.
    notes (record c.args.self.now { words = before }) c.args.self.now c.note.new.self c.is_some.result client moved event c.args.row.now c.args.row.now (g.K.Sink.held c.args.sink.now) (g.K.Sink.held c.note.new.sink)
    (c.is_some.ensures ∙ ap is_some c.ended.ensures) c.if-is_some.false step timeout refl refl c.note.ensures.range c.note.ensures.words c.note.ensures.noted
