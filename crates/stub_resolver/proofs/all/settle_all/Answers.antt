use Rattle.std.proofs.Common.{◌≡◌, ℕ, List, ap, subst, ◌∙◌}
use Rattle.client_request.specs.Request.{Request}
use Rattle.client_loop.specs.All.{AllReplied, StopAll}
use Rattle.client_loop.specs.Asking.{scene}
use Rattle.client_loop.proofs.Turning.{same_error}
use Rattle.stub_resolver.specs.All.{unread}
use Rattle.stub_resolver.proofs.AllReplying.{still_lasts}
use Rattle.stub_resolver.proofs.all.settle_all.Goals as goal

pub returns-in-Ok-settled-clause-settle : goal.returns-in-Ok-settled-clause-settle
returns-in-Ok-settled-clause-settle g c =
    let old = (scene c.args.client.now (g.W.Words.stream c.args.words.now) (g.E.Edge.deeds c.args.edge.now) (g.E.Edge.waits c.args.edge.now) (g.E.Edge.polls c.args.edge.now) (g.C.Clock.given c.args.clock.now)) in
    let new = (scene c.ask_all.new.client (g.W.Words.stream c.ask_all.new.words) (g.E.Edge.deeds c.ask_all.new.edge) (g.E.Edge.waits c.ask_all.new.edge) (g.E.Edge.polls c.ask_all.new.edge) (g.C.Clock.given c.ask_all.new.clock)) in
    let requests : c.in_ok-again.again.items ≡ unread c.args.all.items c.args.got.items = c.in_ok-again.ensures ∙ ap (λ os. unread c.args.all.items os) c.deref.ensures.value in
    record {
      later = c.in-Ok.replies.items;
      again =
          subst (λ (n : ℕ). AllReplied n (unread c.args.all.items c.args.got.items) c.in-Ok.replies.items old new) c.next_request-number.ensures
          (subst (λ (rs : List Request). AllReplied c.next_request-number.result rs c.in-Ok.replies.items old new) requests c.in-Ok.ensures.answered);
      replies_are = c.in-Ok-settled.ensures;
    }

pub returns-in-Ok-settled-clause-lasts : goal.returns-in-Ok-settled-clause-lasts
returns-in-Ok-settled-clause-lasts g c = still_lasts c.next_request-number.result c.in_ok-again.again.items c.in-Ok.replies.items
    (scene c.args.client.now (g.W.Words.stream c.args.words.now) (g.E.Edge.deeds c.args.edge.now) (g.E.Edge.waits c.args.edge.now) (g.E.Edge.polls c.args.edge.now) (g.C.Clock.given c.args.clock.now))
    (scene c.ask_all.new.client (g.W.Words.stream c.ask_all.new.words) (g.E.Edge.deeds c.ask_all.new.edge) (g.E.Edge.waits c.ask_all.new.edge) (g.E.Edge.polls c.ask_all.new.edge) (g.C.Clock.given c.ask_all.new.clock)) c.in-Ok.ensures.answered c.in-Ok.ensures.lasts

pub returns-in-Err-clause-numbers : goal.returns-in-Err-clause-numbers
returns-in-Err-clause-numbers g c = λ is.
    let old = (scene c.args.client.now (g.W.Words.stream c.args.words.now) (g.E.Edge.deeds c.args.edge.now) (g.E.Edge.waits c.args.edge.now) (g.E.Edge.polls c.args.edge.now) (g.C.Clock.given c.args.clock.now)) in
    let new = (scene c.ask_all.new.client (g.W.Words.stream c.ask_all.new.words) (g.E.Edge.deeds c.ask_all.new.edge) (g.E.Edge.waits c.ask_all.new.edge) (g.E.Edge.polls c.ask_all.new.edge) (g.C.Clock.given c.ask_all.new.clock)) in
    let requests : c.in_ok-again.again.items ≡ unread c.args.all.items c.args.got.items = c.in_ok-again.ensures ∙ ap (λ os. unread c.args.all.items os) c.deref.ensures.value in
    subst (λ (rs : List Request). StopAll rs old new) requests (c.in-Err.ensures.numbers (same_error _ _ is))
