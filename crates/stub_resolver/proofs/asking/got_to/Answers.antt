use Rattle.std.proofs.Common.{◌≡◌, sym, ◌∙◌, false, true}
use Rattle.client_loop.specs.Asking.{scene}
use Rattle.stub_resolver.proofs.Replying.{gets_refusal, gets_reply}
use Rattle.stub_resolver.proofs.asking.got_to.Goals as goal

pub returns-in-Ok-last_reply-clause-gets : goal.returns-in-Ok-last_reply-clause-gets
returns-in-Ok-last_reply-clause-gets g c = λ _.
    gets_reply c.args.again c.args.message c.in-Ok.request
    (scene c.args.client.now (g.W.Words.stream c.args.words.now) (g.E.Edge.deeds c.args.edge.now) (g.E.Edge.waits c.args.edge.now) (g.E.Edge.polls c.args.edge.now) (g.C.Clock.given c.args.clock.now))
    (scene c.last_reply.new.client (g.W.Words.stream c.last_reply.new.words) (g.E.Edge.deeds c.last_reply.new.edge) (g.E.Edge.waits c.last_reply.new.edge) (g.E.Edge.polls c.last_reply.new.edge) (g.C.Clock.given c.last_reply.new.clock))
    c.in-Ok-last_reply.reply c.got_of.result c.in-Ok.ensures.made c.in-Ok.ensures.misformed c.in-Ok-last_reply.ensures.replies c.got_of.ensures

pub returns-in-Err-last_reply-clause-gets : goal.returns-in-Err-last_reply-clause-gets
returns-in-Err-last_reply-clause-gets g c = λ good.
    gets_refusal c.args.again c.args.message c.in-Ok.request
    (scene c.args.client.now (g.W.Words.stream c.args.words.now) (g.E.Edge.deeds c.args.edge.now) (g.E.Edge.waits c.args.edge.now) (g.E.Edge.polls c.args.edge.now) (g.C.Clock.given c.args.clock.now))
    (scene c.last_reply.new.client (g.W.Words.stream c.last_reply.new.words) (g.E.Edge.deeds c.last_reply.new.edge) (g.E.Edge.waits c.last_reply.new.edge) (g.E.Edge.polls c.last_reply.new.edge) (g.C.Clock.given c.last_reply.new.clock))
    c.in-Err-last_reply.error c.in-Ok.ensures.made c.in-Ok.ensures.misformed c.in-Err-last_reply.ensures.refused c.in-Err-last_reply.ensures.numbers
    (λ is. let bad = c.in-Err-last_reply.ensures.failed_only is in let both : false ≡ true = sym good ∙ bad in absurd (cc))
