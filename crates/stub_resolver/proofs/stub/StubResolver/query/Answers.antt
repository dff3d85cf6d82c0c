use Rattle.std.proofs.Common.{List, ℕ, subst, true}
use Rattle.stub_resolver.specs.Queries.{Gets}
use Rattle.stub_resolver.specs.Stub.{seen}
use Rattle.stub_resolver.proofs.stub.StubResolver.query.Goals as goal

pub returns-in-Ok-clause-gets : goal.returns-in-Ok-clause-gets
returns-in-Ok-clause-gets g c = λ good.
    subst (λ (m : List ℕ). Gets true m (seen g.E.Edge.deeds g.E.Edge.waits g.E.Edge.polls g.C.Clock.given g.W.Words.stream c.args.self.now) (seen g.E.Edge.deeds g.E.Edge.waits g.E.Edge.polls g.C.Clock.given g.W.Words.stream c.ask.new.self) c.ask.result)
    c.in-Ok.ensures (c.ask.ensures.gets good)
