use Rattle.std.proofs.Common.{ap}
use Rattle.client_steps.specs.Whole.{Whole}
use Rattle.front_steps.specs.Steps.{Forwarding}
use Rattle.forward_run.specs.Turns.{world}
use Rattle.forward_run.proofs.Served.{served}
use Rattle.forward_run.proofs.serving.serve_conf.Goals as goal

pub turn_all-requires : goal.turn_all-requires
turn_all-requires g c = ap (λ (f : Forwarding Whole). f.failed) c.in_ok-forwarder.ensures.made

pub returns-in-Ok-clause-served : goal.returns-in-Ok-clause-served
returns-in-Ok-clause-served g c =
    served c.args.options.now c.args.asked c.args.conf.now c.in-Ok.answered c.in_ok-forwarder.forwarder c.turn_all.new.forwarder
    (world (g.W.Words.stream c.args.rng.now) (g.F.Front.deeds c.args.front.now) (g.F.Front.polls c.args.front.now) (g.C.Clock.given c.args.clock.now))
    (world (g.W.Words.stream c.turn_all.new.words) (g.F.Front.deeds c.turn_all.new.front) (g.F.Front.polls c.turn_all.new.front) (g.C.Clock.given c.turn_all.new.clock))
    (g.F.Front.deeds c.begin.new.front) (g.F.Front.polls c.begin.new.front)
    c.in_ok-forwarder.ensures.made c.in_ok-forwarder.ensures.deeds c.in_ok-forwarder.ensures.polls
    c.every_forwarded_trace_is_right.ensures (g.met.W.Words.words_fit c.args.rng.now) c.in_ok-forwarder.ensures.asks_others c.in-Ok.ensures.turned
