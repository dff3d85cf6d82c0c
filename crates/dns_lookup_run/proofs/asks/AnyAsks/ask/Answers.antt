use Rattle.client_loop.specs.Asking.{scene}
use Rattle.dns_lookup_run.proofs.Unmade.{answered_alone}
use Rattle.dns_lookup_run.proofs.asks.AnyAsks.ask.Goals as goal

pub returns-clause-answered : goal.returns-clause-answered
returns-clause-answered g c =
    answered_alone c.args.number c.args.request
    (scene c.args.client.now (g.W.Words.stream c.args.self.now) (g.E.Edge.deeds c.args.edge.now) (g.E.Edge.waits c.args.edge.now) (g.E.Edge.polls c.args.edge.now) (g.C.Clock.given c.args.clock.now))
    (scene c.ask.new.client (g.W.Words.stream c.ask.new.words) (g.E.Edge.deeds c.ask.new.edge) (g.E.Edge.waits c.ask.new.edge) (g.E.Edge.polls c.ask.new.edge) (g.C.Clock.given c.ask.new.clock))
    c.ask.result c.ask.ensures.answered
