use Rattle.std.proofs.Common.{arith}
use Rattle.forward_conf.specs.Sentences.{line_of}
use Rattle.forward_run.proofs.Ends.{deaf_of, keeps, numbers_of, refused_of, source_of}
use Rattle.forward_run.proofs.Written.{asked_with, numbers_so, refused_so}
use Rattle.forward_workers.proofs.serving.serve_by_all.Goals as goal

pub returns-in-Err-written-clause-refused : goal.returns-in-Err-written-clause-refused
returns-in-Err-written-clause-refused g c = λ one.
    asked_with c.args.words.now c.in-Ok.asked (g.S.Source.left c.args.source.now) _ c.in-Ok.ensures
    (refused_so (g.S.Source.left c.args.source.now) c.args.options.now.policy (line_of c.in-Err-written.cause) (g.K.Sink.held c.args.sink.now) (g.K.Sink.held c.end_because-status.new.sink) (g.K.Sink.faults c.args.sink.now) (g.K.Sink.faults c.end_because-status.new.sink)
    (refused_of c.args.options.now c.in-Ok.asked.port (g.S.Source.left c.args.source.now) (g.W.Words.stream c.args.rng) (g.F.Front.gave c.serve_source-first.result.0.front)
    (g.F.Front.is_deaf_at c.serve_source-first.result.0.front) (g.F.Front.faults c.args.crew.first.front) (g.F.Front.faults c.serve_source-first.result.0.front) (g.S.Source.faults c.args.source.now) (g.S.Source.faults c.serve_source-first.new.source) c.in-Err-written.cause (rw c.in-Err-written.is at c.serve_source-first.ensures.cause) (keeps c.in-Err-written.cause c.end_because-status.result.0 1 c.end_because-status.ensures.status one (λ h. omega arith))) (c.end_because-status.ensures.said (λ h. omega arith)))

pub returns-in-Err-written-clause-source_fault : goal.returns-in-Err-written-clause-source_fault
returns-in-Err-written-clause-source_fault g c = λ three.
    source_of c.args.options.now c.in-Ok.asked.port (g.S.Source.left c.args.source.now) (g.W.Words.stream c.args.rng) (g.F.Front.gave c.serve_source-first.result.0.front)
    (g.F.Front.is_deaf_at c.serve_source-first.result.0.front) (g.F.Front.faults c.args.crew.first.front) (g.F.Front.faults c.serve_source-first.result.0.front) (g.S.Source.faults c.args.source.now) (g.S.Source.faults c.serve_source-first.new.source) c.in-Err-written.cause (rw c.in-Err-written.is at c.serve_source-first.ensures.cause) (keeps c.in-Err-written.cause c.end_because-status.result.0 3 c.end_because-status.ensures.status three (λ h. omega arith))

pub returns-in-Err-written-clause-deaf : goal.returns-in-Err-written-clause-deaf
returns-in-Err-written-clause-deaf g c = λ five.
    asked_with c.args.words.now c.in-Ok.asked (g.S.Source.left c.args.source.now) _ c.in-Ok.ensures
    (deaf_of c.args.options.now c.in-Ok.asked.port (g.S.Source.left c.args.source.now) (g.W.Words.stream c.args.rng) (g.F.Front.gave c.serve_source-first.result.0.front)
    (g.F.Front.is_deaf_at c.serve_source-first.result.0.front) (g.F.Front.faults c.args.crew.first.front) (g.F.Front.faults c.serve_source-first.result.0.front) (g.S.Source.faults c.args.source.now) (g.S.Source.faults c.serve_source-first.new.source) c.in-Err-written.cause (rw c.in-Err-written.is at c.serve_source-first.ensures.cause) (keeps c.in-Err-written.cause c.end_because-status.result.0 5 c.end_because-status.ensures.status five (λ h. omega arith)))

pub returns-in-Err-written-clause-numbers : goal.returns-in-Err-written-clause-numbers
returns-in-Err-written-clause-numbers g c = λ seven.
    numbers_so (line_of c.in-Err-written.cause) (g.K.Sink.held c.args.sink.now) (g.K.Sink.held c.end_because-status.new.sink) (g.K.Sink.faults c.args.sink.now) (g.K.Sink.faults c.end_because-status.new.sink)
    (numbers_of c.in-Err-written.cause (keeps c.in-Err-written.cause c.end_because-status.result.0 7 c.end_because-status.ensures.status seven (λ h. omega arith))) (c.end_because-status.ensures.said (λ h. omega arith))
