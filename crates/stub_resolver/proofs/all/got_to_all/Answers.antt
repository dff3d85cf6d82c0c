use Rattle.std.proofs.Common.{List, subst}
use Rattle.client_request.specs.Request.{Request}
use Rattle.client_loop.specs.Asking.{scene}
use Rattle.stub_resolver.specs.All.{StopsAll}
use Rattle.stub_resolver.proofs.AllReplying.{get_all}
use Rattle.stub_resolver.proofs.all.got_to_all.Goals as goal

pub returns-in-Ok-clause-get : goal.returns-in-Ok-clause-get
returns-in-Ok-clause-get g c =
    get_all c.got_by.result (λ v. v.items) c.args.questions.now c.in-Ok.asked.items c.deref.result.now c.in-Ok.requests.items
    (scene c.args.client.now (g.W.Words.stream c.args.words.now) (g.E.Edge.deeds c.args.edge.now) (g.E.Edge.waits c.args.edge.now) (g.E.Edge.polls c.args.edge.now) (g.C.Clock.given c.args.clock.now))
    (scene c.got_by.new.client (g.W.Words.stream c.got_by.new.words) (g.E.Edge.deeds c.got_by.new.edge) (g.E.Edge.waits c.got_by.new.edge) (g.E.Edge.polls c.got_by.new.edge) (g.C.Clock.given c.got_by.new.clock))
    c.deref.ensures.value c.in-Ok.ensures.asked c.in-Ok.ensures.requests c.got_by.ensures.get

pub returns-in-Ok-clause-numbers : goal.returns-in-Ok-clause-numbers
returns-in-Ok-clause-numbers g c = λ is.
    subst (λ (rs : List Request). StopsAll rs
    (scene c.args.client.now (g.W.Words.stream c.args.words.now) (g.E.Edge.deeds c.args.edge.now) (g.E.Edge.waits c.args.edge.now) (g.E.Edge.polls c.args.edge.now) (g.C.Clock.given c.args.clock.now))
    (scene c.got_by.new.client (g.W.Words.stream c.got_by.new.words) (g.E.Edge.deeds c.got_by.new.edge) (g.E.Edge.waits c.got_by.new.edge) (g.E.Edge.polls c.got_by.new.edge) (g.C.Clock.given c.got_by.new.clock))) c.in-Ok.ensures.requests (c.got_by.ensures.numbers is)
