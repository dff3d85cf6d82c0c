use Rattle.std.proofs.Common.{◌≡◌, ap, arith, sym, subst, ◌∙◌}
use Rattle.client_request.specs.Request.{Request, recorded_from}
use Rattle.stub_resolver.specs.Both.{QueriesBoth, at_once}
use Rattle.stub_resolver.specs.Queries.{question}
use Rattle.stub_resolver.specs.Stub.{Stub, seen}
use Rattle.stub_resolver.proofs.stub.StubResolver.query_both.Goals as goal

pub returns-in-Ok-clause-asks : goal.returns-in-Ok-clause-asks
returns-in-Ok-clause-asks g c =
    let next : c.self.inside.client.asked.next ≡ c.args.self.now.client.asked.next = ap (λ (s : Stub _ _ _). s.client.asked.next) c.self.view_is in
    at_once (record {
      lasts = sym (ap (λ (s : Stub _ _ _). s.failed) c.self.view_is) ∙ c.if-self.false;
      first_formed = c.in-Ok.ensures.first_formed;
      second_formed = c.in-Ok.ensures.second_formed;
      room = omega (arith, c.if-next_request.false, c.next_request.ensures, c.next_request.type_inv);
    })
    (subst (λ (q : Request). QueriesBoth (seen g.E.Edge.deeds g.E.Edge.waits g.E.Edge.polls g.C.Clock.given g.W.Words.stream) q (recorded_from (question c.args.name.now c.args.second.0)) c.args.self.now c.ask_both.new.self c.ask_both.result.0 c.ask_both.result.1) c.in-Ok.ensures.first_made
    (subst (λ (q : Request). QueriesBoth (seen g.E.Edge.deeds g.E.Edge.waits g.E.Edge.polls g.C.Clock.given g.W.Words.stream) c.in-Ok.one q c.args.self.now c.ask_both.new.self c.ask_both.result.0 c.ask_both.result.1) c.in-Ok.ensures.second_made c.ask_both.ensures.both))
