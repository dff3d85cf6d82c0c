use Rattle.std.proofs.Common.{◌≡◌, ℕ, List, subst, ◌∙◌}
use Rattle.client_request.specs.Request.{Request}
use Rattle.client_loop.specs.All.{AllReplied, StopAll}
use Rattle.client_loop.specs.Asking.{scene}
use Rattle.client_loop.proofs.Turning.{same_error}
use Rattle.stub_resolver.specs.All.{at_first, at_second, unread}
use Rattle.stub_resolver.proofs.AllReplying.{failed_before, lasts_then, reply_all, still_lasts}
use Rattle.stub_resolver.proofs.all.replies_to_all.Goals as goal

pub returns-in-Ok-clause-replies : goal.returns-in-Ok-clause-replies
returns-in-Ok-clause-replies g c =
    let old = (scene c.args.client.now (g.W.Words.stream c.args.words.now) (g.E.Edge.deeds c.args.edge.now) (g.E.Edge.waits c.args.edge.now) (g.E.Edge.polls c.args.edge.now) (g.C.Clock.given c.args.clock.now)) in
    let middle = (scene c.ask_all.new.client (g.W.Words.stream c.ask_all.new.words) (g.E.Edge.deeds c.ask_all.new.edge) (g.E.Edge.waits c.ask_all.new.edge) (g.E.Edge.polls c.ask_all.new.edge) (g.C.Clock.given c.ask_all.new.clock)) in
    let new = (scene c.settle_all.new.client (g.W.Words.stream c.settle_all.new.words) (g.E.Edge.deeds c.settle_all.new.edge) (g.E.Edge.waits c.settle_all.new.edge) (g.E.Edge.polls c.settle_all.new.edge) (g.C.Clock.given c.settle_all.new.clock)) in
    let copies : c.in_ok-copies.copies.items ≡ c.args.requests.items = c.in_ok-copies.ensures ∙ c.deref.ensures.value in
    reply_all c.settle_all.result (λ v. v.items) c.args.requests.items c.in_ok-copies.copies.items c.in-Ok.replies.items old middle new copies
    (subst (λ (n : ℕ). AllReplied n c.args.requests.items c.in-Ok.replies.items old middle) c.next_request-number.ensures c.in-Ok.ensures.answered) c.in-Ok.ensures.timeout c.settle_all.ensures.settle

pub returns-in-Ok-clause-numbers : goal.returns-in-Ok-clause-numbers
returns-in-Ok-clause-numbers g c = λ is.
    let old = (scene c.args.client.now (g.W.Words.stream c.args.words.now) (g.E.Edge.deeds c.args.edge.now) (g.E.Edge.waits c.args.edge.now) (g.E.Edge.polls c.args.edge.now) (g.C.Clock.given c.args.clock.now)) in
    let middle = (scene c.ask_all.new.client (g.W.Words.stream c.ask_all.new.words) (g.E.Edge.deeds c.ask_all.new.edge) (g.E.Edge.waits c.ask_all.new.edge) (g.E.Edge.polls c.ask_all.new.edge) (g.C.Clock.given c.ask_all.new.clock)) in
    let new = (scene c.settle_all.new.client (g.W.Words.stream c.settle_all.new.words) (g.E.Edge.deeds c.settle_all.new.edge) (g.E.Edge.waits c.settle_all.new.edge) (g.E.Edge.polls c.settle_all.new.edge) (g.C.Clock.given c.settle_all.new.clock)) in
    let copies : c.in_ok-copies.copies.items ≡ c.args.requests.items = c.in_ok-copies.ensures ∙ c.deref.ensures.value in
    at_second c.in-Ok.replies.items middle
    (subst (λ (n : ℕ). AllReplied n c.args.requests.items c.in-Ok.replies.items old middle) c.next_request-number.ensures c.in-Ok.ensures.answered)
    (subst (λ (rs : List Request). StopAll (unread rs c.in-Ok.replies.items) middle new) copies (c.settle_all.ensures.numbers is))

pub returns-in-Ok-clause-lasts : goal.returns-in-Ok-clause-lasts
returns-in-Ok-clause-lasts g c =
    let old = (scene c.args.client.now (g.W.Words.stream c.args.words.now) (g.E.Edge.deeds c.args.edge.now) (g.E.Edge.waits c.args.edge.now) (g.E.Edge.polls c.args.edge.now) (g.C.Clock.given c.args.clock.now)) in
    let middle = (scene c.ask_all.new.client (g.W.Words.stream c.ask_all.new.words) (g.E.Edge.deeds c.ask_all.new.edge) (g.E.Edge.waits c.ask_all.new.edge) (g.E.Edge.polls c.ask_all.new.edge) (g.C.Clock.given c.ask_all.new.clock)) in
    let new = (scene c.settle_all.new.client (g.W.Words.stream c.settle_all.new.words) (g.E.Edge.deeds c.settle_all.new.edge) (g.E.Edge.waits c.settle_all.new.edge) (g.E.Edge.polls c.settle_all.new.edge) (g.C.Clock.given c.settle_all.new.clock)) in
    lasts_then c.settle_all.result old middle new (still_lasts c.next_request-number.result c.args.requests.items c.in-Ok.replies.items old middle c.in-Ok.ensures.answered c.in-Ok.ensures.lasts)
    c.settle_all.ensures.lasts

pub returns-in-Ok-clause-failed_only : goal.returns-in-Ok-clause-failed_only
returns-in-Ok-clause-failed_only g c = λ is.
    let old = (scene c.args.client.now (g.W.Words.stream c.args.words.now) (g.E.Edge.deeds c.args.edge.now) (g.E.Edge.waits c.args.edge.now) (g.E.Edge.polls c.args.edge.now) (g.C.Clock.given c.args.clock.now)) in
    let middle = (scene c.ask_all.new.client (g.W.Words.stream c.ask_all.new.words) (g.E.Edge.deeds c.ask_all.new.edge) (g.E.Edge.waits c.ask_all.new.edge) (g.E.Edge.polls c.ask_all.new.edge) (g.C.Clock.given c.ask_all.new.clock)) in
    let new = (scene c.settle_all.new.client (g.W.Words.stream c.settle_all.new.words) (g.E.Edge.deeds c.settle_all.new.edge) (g.E.Edge.waits c.settle_all.new.edge) (g.E.Edge.polls c.settle_all.new.edge) (g.C.Clock.given c.settle_all.new.clock)) in
    failed_before c.next_request-number.result c.args.requests.items c.in-Ok.replies.items old middle c.in-Ok.ensures.answered c.in-Ok.ensures.lasts (c.settle_all.ensures.failed_only is)

pub returns-in-Err-clause-numbers : goal.returns-in-Err-clause-numbers
returns-in-Err-clause-numbers g c = λ is. at_first (c.in-Err.ensures.numbers (same_error _ _ is))
