use Rattle.forward_workers.specs.Sharing.{world_of}
use Rattle.forward_workers.proofs.Serveds.{served}
use Rattle.forward_workers.proofs.serving.serve_conf.Goals as goal

pub returns-in-Ok-came-clause-served : goal.returns-in-Ok-came-clause-served
returns-in-Ok-came-clause-served g c =
    served c.args.options.now c.args.asked c.args.conf.now c.in-Ok-came.came.answered (g.W.Words.stream c.args.rng) c.in-Ok.forwarder (g.F.Front.deeds c.begin-begun.new.front)
    (world_of g.F.Front.deeds g.D.Door.deeds c.args.crew.first c.args.crew.workers.items) (world_of g.F.Front.deeds g.D.Door.deeds c.turn_all-first.result.0 c.in-Ok-came.came.workers.items)
    c.in-Ok.ensures.made c.in-Ok.ensures.deeds c.every_forwarded_trace_is_right.ensures c.words_are_short.ensures c.in-Ok.ensures.asks_others
    (rw c.in-Ok-came.is at c.turn_all-first.ensures)
