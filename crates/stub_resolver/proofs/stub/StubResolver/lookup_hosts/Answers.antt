use Rattle.std.proofs.Common.{List, subst, ◌∙◌}
use Rattle.client_loop.proofs.Turning.{same_error}
use Rattle.stub_resolver.specs.All.{QueriesAll, StopFor}
use Rattle.stub_resolver.specs.Stub.{seen}
use Rattle.stub_resolver.specs.declared.all.Question.{Question}
use Rattle.stub_resolver.proofs.stub.StubResolver.lookup_hosts.Goals as goal

pub returns-in-Ok-all_found-clause-found : goal.returns-in-Ok-all_found-clause-found
returns-in-Ok-all_found-clause-found g c = record {
  gots = c.in-Ok.gots.items;
  asked =
      subst (λ (qs : List Question). QueriesAll (seen g.E.Edge.deeds g.E.Edge.waits g.E.Edge.polls g.C.Clock.given g.W.Words.stream) qs c.in-Ok.gots.items c.args.self.now c.resolve_all.new.self)
      (c.deref.ensures.value ∙ c.in_ok-questions.ensures) c.in-Ok.ensures.resolved;
  made = c.in-Ok-all_found.ensures;
}

pub returns-in-Err-clause-numbers : goal.returns-in-Err-clause-numbers
returns-in-Err-clause-numbers g c = λ is.
    subst (λ (qs : List Question). StopFor qs (seen g.E.Edge.deeds g.E.Edge.waits g.E.Edge.polls g.C.Clock.given g.W.Words.stream c.args.self.now) (seen g.E.Edge.deeds g.E.Edge.waits g.E.Edge.polls g.C.Clock.given g.W.Words.stream c.resolve_all.new.self))
    (c.deref.ensures.value ∙ c.in_ok-questions.ensures) (c.in-Err.ensures.numbers (same_error _ _ is))
