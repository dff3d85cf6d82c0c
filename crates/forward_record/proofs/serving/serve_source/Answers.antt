use Rattle.forward_conf.specs.Causes.{IsServeCause}
use Rattle.forward_conf.specs.Reading.{AnyNotes}
use Rattle.forward_run.specs.Ends.{IsEndCause}
use Rattle.forward_run.specs.Turns.{world}
use Rattle.forward_run.proofs.Ends.{any_notes, read_end, serve_end}
use Rattle.forward_record.specs.Serving.{IsNotRecorded, IsNotRecordedIf, words_ahead}
use Rattle.forward_record.specs.Telling.{IsNotedThen}
use Rattle.forward_record.proofs.Ends.{ends_weaker, not_recorded_weaker}
use Rattle.forward_record.proofs.Done.{refused_if, serves_if}
use Rattle.forward_record.proofs.Told.{all_speak, noted_then, told_nothing}
use Rattle.forward_record.proofs.serving.serve_source.Goals as goal

pub returns-in-Err-clause-cause : goal.returns-in-Err-clause-cause
returns-in-Err-clause-cause g c =
    read_end c.args.options.now c.args.asked.port (g.S.Source.left c.args.source.now) (g.W.Words.stream c.args.rng.now) (g.F.Front.gave c.args.front.now) (g.F.Front.is_deaf_at c.args.front.now)
    (g.F.Front.faults c.args.front.now) (g.F.Front.faults c.args.front.now) (g.S.Source.faults c.args.source.now) (g.S.Source.faults c.conf_asked.new.source) c.in-Err.cause c.in-Err.ensures.cause

pub returns-in-Err-clause-told : goal.returns-in-Err-clause-told
returns-in-Err-clause-told g c = λ other.
    noted_then AnyNotes (g.L.Sink.held c.args.errors.now) (g.L.Sink.held c.conf_asked.new.errors) (g.L.Sink.held c.conf_asked.new.errors) (g.L.Sink.faults c.args.errors.now)
    (g.L.Sink.faults c.conf_asked.new.errors) (g.L.Sink.faults c.conf_asked.new.errors) (c.in-Err.ensures.told other)
    (told_nothing (g.L.Sink.held c.conf_asked.new.errors) (g.L.Sink.faults c.conf_asked.new.errors))

pub returns-clause-served : goal.returns-clause-served
returns-clause-served g c =
    serves_if g.K.Sink.held c.args.options.now c.args.asked (g.S.Source.left c.args.source.now) c.in-Ok.conf (g.W.Words.stream c.conf_asked.new.rng) (g.K.Sink.held c.args.file)
    (world (g.W.Words.stream c.args.rng.now) (g.F.Front.deeds c.args.front.now) (g.F.Front.polls c.args.front.now) (g.C.Clock.given c.args.clock.now))
    (world (g.W.Words.stream c.serve_conf.new.rng) (g.F.Front.deeds c.serve_conf.new.front) (g.F.Front.polls c.serve_conf.new.front) (g.C.Clock.given c.serve_conf.new.clock))
    c.serve_conf.result c.in-Ok.ensures.asked c.serve_conf.ensures.served

pub returns-clause-cause : goal.returns-clause-cause
returns-clause-cause g c =
    ends_weaker c.serve_conf.result
    (λ cause. IsServeCause (g.F.Front.gave c.serve_conf.new.front) (g.F.Front.is_deaf_at c.serve_conf.new.front) (g.F.Front.faults c.args.front.now) (g.F.Front.faults c.serve_conf.new.front)
    c.args.options.now.listened c.args.asked.port c.in-Ok.conf cause)
    (λ cause. IsEndCause c.args.options.now c.args.asked.port (g.S.Source.left c.args.source.now) (g.W.Words.stream c.args.rng.now) (g.F.Front.gave c.serve_conf.new.front) (g.F.Front.is_deaf_at c.serve_conf.new.front)
    (g.F.Front.faults c.args.front.now) (g.F.Front.faults c.serve_conf.new.front) (g.S.Source.faults c.args.source.now) (g.S.Source.faults c.conf_asked.new.source) cause)
    (λ cause h. serve_end c.args.options.now c.args.asked.port (g.S.Source.left c.args.source.now) c.in-Ok.conf (g.W.Words.stream c.args.rng.now) (g.W.Words.stream c.conf_asked.new.rng)
    (g.F.Front.gave c.serve_conf.new.front) (g.F.Front.is_deaf_at c.serve_conf.new.front) (g.F.Front.faults c.args.front.now) (g.F.Front.faults c.serve_conf.new.front)
    (g.S.Source.faults c.args.source.now) (g.S.Source.faults c.conf_asked.new.source) cause c.in-Ok.ensures.asked h)
    c.serve_conf.ensures.cause

pub returns-clause-told : goal.returns-clause-told
returns-clause-told g c =
    all_speak c.serve_conf.result (IsNotedThen AnyNotes (g.L.Sink.held c.args.errors.now) (g.L.Sink.held c.serve_conf.new.errors) (g.L.Sink.faults c.args.errors.now) (g.L.Sink.faults c.serve_conf.new.errors))
    (noted_then AnyNotes (g.L.Sink.held c.args.errors.now) (g.L.Sink.held c.conf_asked.new.errors) (g.L.Sink.held c.serve_conf.new.errors) (g.L.Sink.faults c.args.errors.now)
    (g.L.Sink.faults c.conf_asked.new.errors) (g.L.Sink.faults c.serve_conf.new.errors)
    (any_notes c.args.options.now.policy (g.S.Source.left c.args.source.now) (g.L.Sink.held c.args.errors.now) (g.L.Sink.held c.conf_asked.new.errors) (g.L.Sink.faults c.args.errors.now)
    (g.L.Sink.faults c.conf_asked.new.errors) c.in-Ok.ensures.noted) c.serve_conf.ensures.told)

pub returns-clause-not_recorded : goal.returns-clause-not_recorded
returns-clause-not_recorded g c =
    not_recorded_weaker c.serve_conf.result
    (λ why. IsNotRecorded c.args.options.now c.in-Ok.conf (words_ahead (g.W.Words.stream c.conf_asked.new.rng)) (g.K.Sink.faults c.args.file) why)
    (λ why. IsNotRecordedIf c.args.options.now (g.S.Source.left c.args.source.now) (g.W.Words.stream c.args.rng.now) (g.K.Sink.faults c.args.file) why)
    (λ why h. refused_if c.args.options.now (g.S.Source.left c.args.source.now) c.in-Ok.conf (g.W.Words.stream c.args.rng.now) (g.W.Words.stream c.conf_asked.new.rng) (g.K.Sink.faults c.args.file) why c.in-Ok.ensures.asked h)
    c.serve_conf.ensures.not_recorded
