use Rattle.std.proofs.Common.{subst}
use Rattle.stub_resolver.specs.Queries.{Gets}
use Rattle.stub_resolver.specs.Stub.{Stub, seen}
use Rattle.client_loop.specs.Asking.{scene}
use Rattle.stub_resolver.proofs.stub.StubResolver.ask.Goals as goal

pub returns-then-is_err-clause-gets : goal.returns-then-is_err-clause-gets
returns-then-is_err-clause-gets g c = λ _.
    subst (λ (s : Stub _ _ _). Gets c.args.again c.args.message (seen g.E.Edge.deeds g.E.Edge.waits g.E.Edge.polls g.C.Clock.given g.W.Words.stream s)
    (scene c.got_to-got.new.client (g.W.Words.stream c.got_to-got.new.words) (g.E.Edge.deeds c.got_to-got.new.edge) (g.E.Edge.waits c.got_to-got.new.edge) (g.E.Edge.polls c.got_to-got.new.edge) (g.C.Clock.given c.got_to-got.new.clock)) c.got_to-got.result)
    c.self.view_is (c.got_to-got.ensures.gets (c.self.invariant c.if-self.false))

pub returns-else-is_err-clause-gets : goal.returns-else-is_err-clause-gets
returns-else-is_err-clause-gets g c = λ _.
    subst (λ (s : Stub _ _ _). Gets c.args.again c.args.message (seen g.E.Edge.deeds g.E.Edge.waits g.E.Edge.polls g.C.Clock.given g.W.Words.stream s)
    (scene c.got_to-got.new.client (g.W.Words.stream c.got_to-got.new.words) (g.E.Edge.deeds c.got_to-got.new.edge) (g.E.Edge.waits c.got_to-got.new.edge) (g.E.Edge.polls c.got_to-got.new.edge) (g.C.Clock.given c.got_to-got.new.clock)) c.got_to-got.result)
    c.self.view_is (c.got_to-got.ensures.gets (c.self.invariant c.if-self.false))
