use Rattle.dns_lookup_walk.proofs.Tries.{did_ask}
use Rattle.dns_lookup_walk.proofs.trying.ask_server.Goals as goal

pub returns : goal.returns
returns g c =
    did_ask g.W.World.deeds c.args.ask.now c.args.station.now c.args.server.now c.in_ok-question.question c.in_ok-came.came c.in_ok-verdict.verdict c.heard_of.result c.args.world.now c.ask.new.self c.tell.new.self
    c.in_ok-question.ensures c.in_ok-verdict.ensures c.in_ok-came.ensures c.in_ok-tell.ensures c.heard_of.ensures
