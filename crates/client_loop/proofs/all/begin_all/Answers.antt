use Rattle.std.proofs.Common.{ℕ, ◌≡◌, List, [], length, ap, sym, subst, ◌∙◌, arith}
use Rattle.client_request.specs.Request.{Request}
use Rattle.client_loop.specs.All.{first_replies}
use Rattle.client_loop.specs.Asking.{scene}
use Rattle.client_loop.proofs.AllTurning.{Opening, opening_first, opening_more}
use Rattle.client_loop.proofs.all.begin_all.Goals as goal

pub loop-request-init : goal.loop-request-init
loop-request-init g c =
    let old = scene c.args.client.now (g.W.Words.stream c.args.words.now) (g.E.Edge.deeds c.args.edge.now) (g.E.Edge.waits c.args.edge.now) (g.E.Edge.polls c.args.edge.now) (g.C.Clock.given c.args.clock.now) in
    let len = c.len.ensures in
    let ok = c.args.requests.ok.0 in
    let many : c.len.result ≡ length c.args.requests.items = omega arith in
    subst (λ (left : List Request). Opening c.args.number c.args.requests.items old old left c.in-Ok.replies.items) (sym c.from-left.ensures.0)
    (opening_first c.args.number c.args.requests.items old c.in-Ok.replies.items (c.in-Ok.ensures c.args.number ∙ ap (λ (n : ℕ). first_replies c.args.number n []) many))

pub loop-request-preserved : goal.loop-request-preserved
loop-request-preserved g c =
    opening_more c.args.number c.args.requests.items
    (scene c.args.client.now (g.W.Words.stream c.args.words.now) (g.E.Edge.deeds c.args.edge.now) (g.E.Edge.waits c.args.edge.now) (g.E.Edge.polls c.args.edge.now) (g.C.Clock.given c.args.clock.now))
    (scene c.loop-request.client (g.W.Words.stream c.loop-request.words) (g.E.Edge.deeds c.loop-request.edge) (g.E.Edge.waits c.loop-request.edge) (g.E.Edge.polls c.loop-request.edge) (g.C.Clock.given c.loop-request.clock))
    (scene c.begin.new.client (g.W.Words.stream c.begin.new.words) (g.E.Edge.deeds c.begin.new.edge) (g.E.Edge.waits c.begin.new.edge) (g.E.Edge.polls c.begin.new.edge) (g.C.Clock.given c.begin.new.clock))
    c.loop-request.left.items c.pop_front.new.self.items c.in-Some.request c.in-Ok-begin.row c.loop-request.replies.items c.take_replies.new.replies.items c.loop-request.invariant c.in-Some.ensures.items c.in-Ok-begin.ensures.begun
    c.in-Ok-begin.ensures.timeout c.in-Ok-begin.ensures.lasts c.take_replies.ensures
