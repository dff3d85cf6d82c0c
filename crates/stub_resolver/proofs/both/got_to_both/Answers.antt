use Rattle.std.proofs.Common.{◌≡◌, sym, ◌∙◌, false, true}
use Rattle.client_loop.specs.Asking.{scene}
use Rattle.stub_resolver.specs.Both.{replied}
use Rattle.stub_resolver.proofs.BothReplying.{both_refused}
use Rattle.stub_resolver.proofs.both.got_to_both.Goals as goal

pub returns-in-Ok-clause-gets : goal.returns-in-Ok-clause-gets
returns-in-Ok-clause-gets g c = λ _. replied c.in-Ok.field-0 c.in-Ok.ensures.replies c.got_of.ensures c.got_of-in-Ok.ensures

pub returns-in-Err-clause-gets : goal.returns-in-Err-clause-gets
returns-in-Err-clause-gets g c = λ good.
    both_refused c.args.first c.args.second (scene c.args.client.now (g.W.Words.stream c.args.words.now) (g.E.Edge.deeds c.args.edge.now) (g.E.Edge.waits c.args.edge.now) (g.E.Edge.polls c.args.edge.now) (g.C.Clock.given c.args.clock.now))
    (scene c.replies_to_both.new.client (g.W.Words.stream c.replies_to_both.new.words) (g.E.Edge.deeds c.replies_to_both.new.edge) (g.E.Edge.waits c.replies_to_both.new.edge) (g.E.Edge.polls c.replies_to_both.new.edge) (g.C.Clock.given c.replies_to_both.new.clock))
    c.in-Err.error c.in-Err.ensures.refused c.in-Err.ensures.numbers
    (λ is. let bad = c.in-Err.ensures.failed_only is in let both : false ≡ true = sym good ∙ bad in absurd (cc))
