use Rattle.std.proofs.Common.{inl, inr, arith}
use Rattle.forward_conf.specs.Sentences.{line_of, output_sentence}
use Rattle.forward_run.specs.Ends.{IsEndCause}
use Rattle.forward_run.specs.Turns.{world}
use Rattle.forward_run.proofs.Ends.{any_notes, deaf_of, keeps, not_done, numbers_of, refused_of, source_of, told_behind, why_so}
use Rattle.forward_run.proofs.Written.{cut_so, done_so, numbers_so, refused_so}
use Rattle.forward_run.proofs.serving.serve_asked.Goals as goal

pub returns-in-Ok-clause-done : goal.returns-in-Ok-clause-done
returns-in-Ok-clause-done g c = λ zero.
    done_so c.args.asked (g.S.Source.left c.args.source.now) c.args.options.now c.in-Ok.line.items (g.K.Sink.held c.args.sink.now) (g.K.Sink.held c.deliver.new.sink)
    (world (g.W.Words.stream c.args.rng.now) (g.F.Front.deeds c.args.front.now) (g.F.Front.polls c.args.front.now) (g.C.Clock.given c.args.clock.now))
    (world (g.W.Words.stream c.serve_source.new.rng) (g.F.Front.deeds c.serve_source.new.front) (g.F.Front.polls c.serve_source.new.front) (g.C.Clock.given c.serve_source.new.clock))
    c.in-Ok.ensures.done ((rw c.deref.ensures.value at c.deliver.ensures.done) (c.end_delivered.ensures.done zero).0)

pub returns-in-Ok-clause-flushed : goal.returns-in-Ok-clause-flushed
returns-in-Ok-clause-flushed g c = λ zero. c.deliver.ensures.flushed (c.end_delivered.ensures.done zero).0

pub returns-in-Ok-clause-cut : goal.returns-in-Ok-clause-cut
returns-in-Ok-clause-cut g c = λ four.
    cut_so c.args.asked (g.S.Source.left c.args.source.now) c.args.options.now c.in-Ok.line.items (g.K.Sink.held c.args.sink.now) (g.K.Sink.held c.deliver.new.sink)
    (world (g.W.Words.stream c.args.rng.now) (g.F.Front.deeds c.args.front.now) (g.F.Front.polls c.args.front.now) (g.C.Clock.given c.args.clock.now))
    (world (g.W.Words.stream c.serve_source.new.rng) (g.F.Front.deeds c.serve_source.new.front) (g.F.Front.polls c.serve_source.new.front) (g.C.Clock.given c.serve_source.new.clock))
    c.in-Ok.ensures.done (rw c.deref.ensures.value at c.deliver.ensures.begun)

pub returns-in-Ok-clause-sink_fault : goal.returns-in-Ok-clause-sink_fault
returns-in-Ok-clause-sink_fault g c = λ four. c.deliver.ensures.sink_fault (c.end_delivered.ensures.told four).0

pub returns-in-Ok-clause-cut_told : goal.returns-in-Ok-clause-cut_told
returns-in-Ok-clause-cut_told g c = λ four.
    told_behind output_sentence (g.L.Sink.held c.args.errors.now) (g.L.Sink.held c.serve_source.new.errors) (g.L.Sink.held c.end_delivered.new.errors) (g.L.Sink.faults c.args.errors.now)
    (g.L.Sink.faults c.serve_source.new.errors) (g.L.Sink.faults c.end_delivered.new.errors)
    (any_notes c.args.options.now.policy (g.S.Source.left c.args.source.now) (g.L.Sink.held c.args.errors.now) (g.L.Sink.held c.serve_source.new.errors) (g.L.Sink.faults c.args.errors.now)
    (g.L.Sink.faults c.serve_source.new.errors) c.in-Ok.ensures.noted) (c.end_delivered.ensures.told four).1

pub returns-in-Err-clause-refused : goal.returns-in-Err-clause-refused
returns-in-Err-clause-refused g c = λ one.
    refused_so (g.S.Source.left c.args.source.now) c.args.options.now.policy (line_of c.in-Err.cause) (g.K.Sink.held c.args.sink.now) (g.K.Sink.held c.end_because.new.sink) (g.K.Sink.faults c.args.sink.now) (g.K.Sink.faults c.end_because.new.sink)
    (refused_of c.args.options.now c.args.asked.port (g.S.Source.left c.args.source.now) (g.W.Words.stream c.args.rng.now) (g.F.Front.gave c.serve_source.new.front) (g.F.Front.is_deaf_at c.serve_source.new.front)
    (g.F.Front.faults c.args.front.now) (g.F.Front.faults c.serve_source.new.front) (g.S.Source.faults c.args.source.now) (g.S.Source.faults c.serve_source.new.source) c.in-Err.cause c.in-Err.ensures.cause (keeps c.in-Err.cause c.end_because.result.0 1 c.end_because.ensures.status one (λ h. omega arith)))
    (c.end_because.ensures.said (λ h. omega arith))

pub returns-in-Err-clause-source_fault : goal.returns-in-Err-clause-source_fault
returns-in-Err-clause-source_fault g c = λ three.
    source_of c.args.options.now c.args.asked.port (g.S.Source.left c.args.source.now) (g.W.Words.stream c.args.rng.now) (g.F.Front.gave c.serve_source.new.front) (g.F.Front.is_deaf_at c.serve_source.new.front)
    (g.F.Front.faults c.args.front.now) (g.F.Front.faults c.serve_source.new.front) (g.S.Source.faults c.args.source.now) (g.S.Source.faults c.serve_source.new.source) c.in-Err.cause c.in-Err.ensures.cause (keeps c.in-Err.cause c.end_because.result.0 3 c.end_because.ensures.status three (λ h. omega arith))

pub returns-in-Err-clause-deaf : goal.returns-in-Err-clause-deaf
returns-in-Err-clause-deaf g c = λ five.
    deaf_of c.args.options.now c.args.asked.port (g.S.Source.left c.args.source.now) (g.W.Words.stream c.args.rng.now) (g.F.Front.gave c.serve_source.new.front) (g.F.Front.is_deaf_at c.serve_source.new.front)
    (g.F.Front.faults c.args.front.now) (g.F.Front.faults c.serve_source.new.front) (g.S.Source.faults c.args.source.now) (g.S.Source.faults c.serve_source.new.source) c.in-Err.cause c.in-Err.ensures.cause (keeps c.in-Err.cause c.end_because.result.0 5 c.end_because.ensures.status five (λ h. omega arith))

pub returns-in-Err-clause-numbers : goal.returns-in-Err-clause-numbers
returns-in-Err-clause-numbers g c = λ seven.
    numbers_so (line_of c.in-Err.cause) (g.K.Sink.held c.args.sink.now) (g.K.Sink.held c.end_because.new.sink) (g.K.Sink.faults c.args.sink.now) (g.K.Sink.faults c.end_because.new.sink)
    (numbers_of c.in-Err.cause (keeps c.in-Err.cause c.end_because.result.0 7 c.end_because.ensures.status seven (λ h. omega arith))) (c.end_because.ensures.said (λ h. omega arith))

pub returns-in-Err-clause-done : goal.returns-in-Err-clause-done
returns-in-Err-clause-done g c = λ zero. absurd (not_done c.in-Err.cause c.end_because.result.0 c.end_because.ensures.status (inl zero))

pub returns-in-Err-clause-cut : goal.returns-in-Err-clause-cut
returns-in-Err-clause-cut g c = λ four. absurd (not_done c.in-Err.cause c.end_because.result.0 c.end_because.ensures.status (inr four))

pub returns-in-Err-clause-why : goal.returns-in-Err-clause-why
returns-in-Err-clause-why g c = λ ends.
    why_so (λ cause. IsEndCause c.args.options.now c.args.asked.port (g.S.Source.left c.args.source.now) (g.W.Words.stream c.args.rng.now) (g.F.Front.gave c.serve_source.new.front) (g.F.Front.is_deaf_at c.serve_source.new.front)
    (g.F.Front.faults c.args.front.now) (g.F.Front.faults c.serve_source.new.front) (g.S.Source.faults c.args.source.now) (g.S.Source.faults c.serve_source.new.source) cause) c.args.options.now.listened c.args.asked.port c.end_because.result.0 c.in-Err.cause
    (g.L.Sink.held c.args.errors.now) (g.L.Sink.held c.serve_source.new.errors) (g.L.Sink.held c.end_because.new.errors)
    (g.L.Sink.faults c.args.errors.now) (g.L.Sink.faults c.serve_source.new.errors) (g.L.Sink.faults c.end_because.new.errors)
    c.end_because.ensures.status ends c.in-Err.ensures.cause c.in-Err.ensures.told (rw c.as_slice.ensures at c.end_because.ensures.told)
