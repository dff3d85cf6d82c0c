use Rattle.std.proofs.Common.{List, ap, subst, sym, ◌∙◌}
use Rattle.client_loop.specs.Asking.{scene}
use Rattle.client_loop.proofs.Turning.{same_error}
use Rattle.resolv_lookup.specs.Asked.{Got}
use Rattle.stub_resolver.specs.All.{GetAll, StopFor, faults_after_all}
use Rattle.stub_resolver.specs.Stub.{Stub, seen}
use Rattle.stub_resolver.proofs.stub.StubResolver.resolve_all.Goals as goal

pub returns-in-Ok-clause-resolved : goal.returns-in-Ok-clause-resolved
returns-in-Ok-clause-resolved g c = record {
  lasted = sym (ap (λ (s : Stub _ _ _). s.failed) c.self.view_is) ∙ c.if-self.false;
  get =
      subst (λ (s : Stub _ _ _). GetAll c.args.questions.now c.in-Ok.gots.items (seen g.E.Edge.deeds g.E.Edge.waits g.E.Edge.polls g.C.Clock.given g.W.Words.stream s)
      (scene c.got_to_all.new.client (g.W.Words.stream c.got_to_all.new.words) (g.E.Edge.deeds c.got_to_all.new.edge) (g.E.Edge.waits c.got_to_all.new.edge) (g.E.Edge.polls c.got_to_all.new.edge) (g.C.Clock.given c.got_to_all.new.clock)))
      c.self.view_is c.in-Ok.ensures.get;
  count =
      c.faults_after_all-self-inside.ensures ∙ ap (λ (gots : List Got). faults_after_all gots c.self.inside.faults) c.deref.ensures.value
      ∙ ap (λ (s : Stub _ _ _). faults_after_all c.in-Ok.gots.items s.faults) c.self.view_is;
  lasts = c.if-self.false;
  options = ap (λ (s : Stub _ _ _). s.options) c.self.view_is;
}

pub returns-in-Err-clause-numbers : goal.returns-in-Err-clause-numbers
returns-in-Err-clause-numbers g c = λ is.
    subst (λ (s : Stub _ _ _). StopFor c.args.questions.now (seen g.E.Edge.deeds g.E.Edge.waits g.E.Edge.polls g.C.Clock.given g.W.Words.stream s)
    (scene c.got_to_all.new.client (g.W.Words.stream c.got_to_all.new.words) (g.E.Edge.deeds c.got_to_all.new.edge) (g.E.Edge.waits c.got_to_all.new.edge) (g.E.Edge.polls c.got_to_all.new.edge) (g.C.Clock.given c.got_to_all.new.clock)))
    c.self.view_is (c.in-Err.ensures.numbers (same_error _ _ is))
