use Rattle.std.proofs.Common.{ℕ, ◌≤◌, ap, subst, ◌∙◌}
use Rattle.client_loop.specs.Asking.{scene}
use Rattle.resolv_lookup.specs.ListAnswers.{faults_after}
use Rattle.stub_resolver.specs.Both.{GetBoth}
use Rattle.stub_resolver.specs.Stub.{Stub, seen}
use Rattle.stub_resolver.proofs.BothReplying.{rose_then}
use Rattle.stub_resolver.proofs.stub.StubResolver.ask_both.Goals as goal

pub returns-clause-both : goal.returns-clause-both
returns-clause-both g c = record {
  get =
      subst (λ (s : Stub _ _ _). GetBoth c.args.first c.args.second (seen g.E.Edge.deeds g.E.Edge.waits g.E.Edge.polls g.C.Clock.given g.W.Words.stream s)
      (scene c.got_to_both-both.new.client (g.W.Words.stream c.got_to_both-both.new.words) (g.E.Edge.deeds c.got_to_both-both.new.edge) (g.E.Edge.waits c.got_to_both-both.new.edge) (g.E.Edge.polls c.got_to_both-both.new.edge) (g.C.Clock.given c.got_to_both-both.new.clock)) c.got_to_both-both.result.0 c.got_to_both-both.result.1)
      c.self.view_is (c.got_to_both-both.ensures.gets (c.self.invariant (ap (λ (s : Stub _ _ _). s.failed) c.self.view_is ∙ c.requires.lasts)));
  count =
      c.faults_after-self-inside.ensures.is
      ∙ ap (λ (n : ℕ). faults_after c.got_to_both-both.result.1 n) (c.faults_after.ensures.is ∙ ap (λ (s : Stub _ _ _). faults_after c.got_to_both-both.result.0 s.faults) c.self.view_is);
  lasts = c.are_want-self-inside.ensures;
  options = ap (λ (s : Stub _ _ _). s.options) c.self.view_is;
}

pub returns-clause-second_rose : goal.returns-clause-second_rose
returns-clause-second_rose g c =
    rose_then c.got_to_both-both.result.1 c.args.self.now.faults c.faults_after.result c.faults_after-self-inside.result (subst (λ (s : Stub _ _ _). s.faults ≤ c.faults_after.result) c.self.view_is c.faults_after.ensures.count)
    c.faults_after-self-inside.ensures.rose
