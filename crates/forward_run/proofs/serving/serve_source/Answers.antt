use Rattle.forward_run.specs.Turns.{world}
use Rattle.forward_run.proofs.Ends.{any_notes, read_end, serve_end}
use Rattle.forward_run.proofs.Served.{answered_so}
use Rattle.forward_run.proofs.serving.serve_source.Goals as goal

pub returns-in-Err-clause-cause : goal.returns-in-Err-clause-cause
returns-in-Err-clause-cause g c =
    read_end c.args.options.now c.args.asked.port (g.S.Source.left c.args.source.now) (g.W.Words.stream c.args.rng.now) (g.F.Front.gave c.args.front.now) (g.F.Front.is_deaf_at c.args.front.now)
    (g.F.Front.faults c.args.front.now) (g.F.Front.faults c.args.front.now) (g.S.Source.faults c.args.source.now) (g.S.Source.faults c.conf_asked.new.source) c.in-Err.cause c.in-Err.ensures.cause

pub returns-in-Err-serve_conf-clause-told : goal.returns-in-Err-serve_conf-clause-told
returns-in-Err-serve_conf-clause-told g c = λ _.
    any_notes c.args.options.now.policy (g.S.Source.left c.args.source.now) (g.L.Sink.held c.args.errors.now) (g.L.Sink.held c.conf_asked.new.errors) (g.L.Sink.faults c.args.errors.now)
    (g.L.Sink.faults c.conf_asked.new.errors) c.in-Ok.ensures.noted

pub returns-in-Err-serve_conf-clause-cause : goal.returns-in-Err-serve_conf-clause-cause
returns-in-Err-serve_conf-clause-cause g c =
    serve_end c.args.options.now c.args.asked.port (g.S.Source.left c.args.source.now) c.in-Ok.conf (g.W.Words.stream c.args.rng.now) (g.W.Words.stream c.conf_asked.new.rng)
    (g.F.Front.gave c.serve_conf.new.front) (g.F.Front.is_deaf_at c.serve_conf.new.front) (g.F.Front.faults c.args.front.now) (g.F.Front.faults c.serve_conf.new.front)
    (g.S.Source.faults c.args.source.now) (g.S.Source.faults c.conf_asked.new.source) c.in-Err-serve_conf.cause c.in-Ok.ensures.asked c.in-Err-serve_conf.ensures.cause

pub returns-clause-done : goal.returns-clause-done
returns-clause-done g c =
    answered_so (g.S.Source.left c.args.source.now) c.args.options.now c.args.asked c.in-Ok.conf (g.W.Words.stream c.conf_asked.new.rng) c.in-Ok-serve_conf.answered c.in_ok-line.line.items
    (world (g.W.Words.stream c.args.rng.now) (g.F.Front.deeds c.args.front.now) (g.F.Front.polls c.args.front.now) (g.C.Clock.given c.args.clock.now))
    (world (g.W.Words.stream c.serve_conf.new.rng) (g.F.Front.deeds c.serve_conf.new.front) (g.F.Front.polls c.serve_conf.new.front) (g.C.Clock.given c.serve_conf.new.clock))
    c.in-Ok.ensures.asked c.in-Ok-serve_conf.ensures.served c.in_ok-line.ensures
