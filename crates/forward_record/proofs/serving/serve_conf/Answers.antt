use Rattle.std.proofs.Common.{ap}
use Rattle.forward_run.specs.Turns.{world}
use Rattle.forward_record.specs.Turns.{Recorded}
use Rattle.forward_record.proofs.Done.{served}
use Rattle.forward_record.proofs.serving.serve_conf.Goals as goal

pub turn_all-turned-requires : goal.turn_all-turned-requires
turn_all-turned-requires g c = ap (λ (f : Recorded g.row.K.Denot). f.failed) c.in-Ok.ensures.begun.new

pub returns-in-Ok-turned-clause-served : goal.returns-in-Ok-turned-clause-served
returns-in-Ok-turned-clause-served g c =
    served g.K.Sink.held c.args.options.now c.args.asked c.args.conf.now c.in-Ok-turned.answered (g.K.Sink.held c.args.file) c.in-Ok.forwarder c.turn_all-turned.new.forwarder
    (world (g.W.Words.stream c.args.rng.now) (g.F.Front.deeds c.args.front.now) (g.F.Front.polls c.args.front.now) (g.C.Clock.given c.args.clock.now))
    (world (g.W.Words.stream c.turn_all-turned.new.words) (g.F.Front.deeds c.turn_all-turned.new.front) (g.F.Front.polls c.turn_all-turned.new.front) (g.C.Clock.given c.turn_all-turned.new.clock))
    (g.W.Words.stream c.begin-begun.new.rng) (g.F.Front.deeds c.begin-begun.new.front) (g.F.Front.polls c.begin-begun.new.front)
    c.in-Ok.ensures.begun c.in-Ok.ensures.rest c.in-Ok.ensures.deeds c.in-Ok.ensures.polls c.in-Ok.ensures.asks_others c.record_law.ensures c.in-Ok-turned.ensures.turned
