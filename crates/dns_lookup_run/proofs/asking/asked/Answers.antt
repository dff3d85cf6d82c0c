use Rattle.client_loop.specs.Asking.{scene}
use Rattle.client_loop.proofs.Turning.{same_error}
use Rattle.dns_lookup_run.proofs.Requests.{gave, gave_and, stopped}
use Rattle.dns_lookup_run.proofs.asking.asked.Goals as goal

pub returns-in-Ok-clause-answered : goal.returns-in-Ok-clause-answered
returns-in-Ok-clause-answered g c =
    gave c.args.ask.now c.args.number c.in-Ok.answer
    (scene c.args.client.now (g.A.Asks.stream c.args.words.now) (g.E.Edge.deeds c.args.edge.now.edge) (g.E.Edge.waits c.args.edge.now.edge) (g.E.Edge.polls c.args.edge.now.edge) (g.C.Clock.given c.args.clock.now.clock))
    (scene c.ask.new.client (g.A.Asks.stream c.ask.new.self) (g.E.Edge.deeds c.ask.new.edge.edge) (g.E.Edge.waits c.ask.new.edge.edge) (g.E.Edge.polls c.ask.new.edge.edge) (g.C.Clock.given c.ask.new.clock.clock))
    c.in_ok-request.request c.in_ok-request.ensures.made
    (λ rows. g.A.Asks.made c.args.words.now c.args.client.now rows c.ask.new.self c.ask.new.client)
    (rw (c.forget.ensures, c.forget-2.ensures.clock) at c.in-Ok.ensures.answered)

pub returns-in-Ok-clause-made : goal.returns-in-Ok-clause-made
returns-in-Ok-clause-made g c =
    gave_and c.args.ask.now c.args.number c.in-Ok.answer
    (scene c.args.client.now (g.A.Asks.stream c.args.words.now) (g.E.Edge.deeds c.args.edge.now.edge) (g.E.Edge.waits c.args.edge.now.edge) (g.E.Edge.polls c.args.edge.now.edge) (g.C.Clock.given c.args.clock.now.clock))
    (scene c.ask.new.client (g.A.Asks.stream c.ask.new.self) (g.E.Edge.deeds c.ask.new.edge.edge) (g.E.Edge.waits c.ask.new.edge.edge) (g.E.Edge.polls c.ask.new.edge.edge) (g.C.Clock.given c.ask.new.clock.clock))
    c.in_ok-request.request c.in_ok-request.ensures.made
    (λ rows. g.A.Asks.made c.args.words.now c.args.client.now rows c.ask.new.self c.ask.new.client)
    (rw (c.forget.ensures, c.forget-2.ensures.clock) at c.in-Ok.ensures.answered)

pub returns-in-Err-clause-numbers : goal.returns-in-Err-clause-numbers
returns-in-Err-clause-numbers g c = λ is.
    stopped c.args.ask.now
    (scene c.args.client.now (g.A.Asks.stream c.args.words.now) (g.E.Edge.deeds c.args.edge.now.edge) (g.E.Edge.waits c.args.edge.now.edge) (g.E.Edge.polls c.args.edge.now.edge) (g.C.Clock.given c.args.clock.now.clock))
    (scene c.ask.new.client (g.A.Asks.stream c.ask.new.self) (g.E.Edge.deeds c.ask.new.edge.edge) (g.E.Edge.waits c.ask.new.edge.edge) (g.E.Edge.polls c.ask.new.edge.edge) (g.C.Clock.given c.ask.new.clock.clock))
    c.in_ok-request.request c.in_ok-request.ensures.made
    ((rw (c.forget.ensures, c.forget-2.ensures.clock) at c.in-Err.ensures.numbers) (same_error _ _ is))
