use Rattle.std.proofs.Common.{sym, ◌∙◌}
use Rattle.client_loop.specs.Asking.{scene}
use Rattle.stub_resolver.proofs.Replying.{asked_again, stops_again}
use Rattle.stub_resolver.proofs.asking.last_reply.Goals as goal

pub returns-then-is_formerr-clause-replies : goal.returns-then-is_formerr-clause-replies
returns-then-is_formerr-clause-replies g c =
    asked_again c.args.again c.args.request c.in_ok-copy.copy
    (scene c.args.client.now (g.W.Words.stream c.args.words.now) (g.E.Edge.deeds c.args.edge.now) (g.E.Edge.waits c.args.edge.now) (g.E.Edge.polls c.args.edge.now) (g.C.Clock.given c.args.clock.now))
    (scene c.reply_to.new.client (g.W.Words.stream c.reply_to.new.words) (g.E.Edge.deeds c.reply_to.new.edge) (g.E.Edge.waits c.reply_to.new.edge) (g.E.Edge.polls c.reply_to.new.edge) (g.C.Clock.given c.reply_to.new.clock))
    (scene c.reply_to-then-is_formerr.new.client (g.W.Words.stream c.reply_to-then-is_formerr.new.words) (g.E.Edge.deeds c.reply_to-then-is_formerr.new.edge) (g.E.Edge.waits c.reply_to-then-is_formerr.new.edge) (g.E.Edge.polls c.reply_to-then-is_formerr.new.edge) (g.C.Clock.given c.reply_to-then-is_formerr.new.clock))
    c.in_ok-reply.reply c.reply_to-then-is_formerr.result c.if-again.true (sym c.is_formerr.ensures ∙ c.if-is_formerr.true) c.in_ok-copy.ensures c.in_ok-reply.ensures.answers c.reply_to-then-is_formerr.ensures.answers

pub returns-then-is_formerr-clause-numbers : goal.returns-then-is_formerr-clause-numbers
returns-then-is_formerr-clause-numbers g c = λ is.
    stops_again c.args.again c.args.request c.in_ok-copy.copy
    (scene c.args.client.now (g.W.Words.stream c.args.words.now) (g.E.Edge.deeds c.args.edge.now) (g.E.Edge.waits c.args.edge.now) (g.E.Edge.polls c.args.edge.now) (g.C.Clock.given c.args.clock.now))
    (scene c.reply_to.new.client (g.W.Words.stream c.reply_to.new.words) (g.E.Edge.deeds c.reply_to.new.edge) (g.E.Edge.waits c.reply_to.new.edge) (g.E.Edge.polls c.reply_to.new.edge) (g.C.Clock.given c.reply_to.new.clock))
    (scene c.reply_to-then-is_formerr.new.client (g.W.Words.stream c.reply_to-then-is_formerr.new.words) (g.E.Edge.deeds c.reply_to-then-is_formerr.new.edge) (g.E.Edge.waits c.reply_to-then-is_formerr.new.edge) (g.E.Edge.polls c.reply_to-then-is_formerr.new.edge) (g.C.Clock.given c.reply_to-then-is_formerr.new.clock))
    c.in_ok-reply.reply c.if-again.true (sym c.is_formerr.ensures ∙ c.if-is_formerr.true) c.in_ok-copy.ensures c.in_ok-reply.ensures.answers (c.reply_to-then-is_formerr.ensures.numbers is)
