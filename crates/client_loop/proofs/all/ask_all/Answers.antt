use Rattle.std.proofs.Common.{ℕ, ◌≤◌, ◌<◌, List, length, Option, Result, inl, inr, ap, sym, subst, ◌∙◌, arith}
use Rattle.client_request.specs.declared.error.Error.{Error}
use Rattle.client_loop.specs.All.{of_each, there}
use Rattle.client_loop.specs.Asking.{scene}
use Rattle.client_loop.specs.Replies.{reply_in}
use Rattle.client_loop.proofs.AllReplies.{there_kept, there_most}
use Rattle.client_loop.proofs.AllTurning.{all_answered, turning, turning_more, turning_of, turning_stops, waiting_first}
use Rattle.client_loop.proofs.Turning.{asked_more, same_error}
use Rattle.client_loop.proofs.all.ask_all.Goals as goal
use Rattle.client_loop.proofs.all.ask_all.Goals.{then-loop-left-test+else-count-len, else-loop-left-test}

pub loop-left-init : goal.loop-left-init
loop-left-init g c = record {
  waits =
      waiting_first c.args.number c.args.requests.items
      (scene c.args.client.now (g.W.Words.stream c.args.words.now) (g.E.Edge.deeds c.args.edge.now) (g.E.Edge.waits c.args.edge.now) (g.E.Edge.polls c.args.edge.now) (g.C.Clock.given c.args.clock.now))
      1000000
      (scene c.begin_all.new.client (g.W.Words.stream c.begin_all.new.words) (g.E.Edge.deeds c.begin_all.new.edge) (g.E.Edge.waits c.begin_all.new.edge) (g.E.Edge.polls c.begin_all.new.edge) (g.C.Clock.given c.begin_all.new.clock))
      c.in-Ok.replies.items c.in-Ok.ensures.begun c.in-Ok.ensures.timeout c.in-Ok.ensures.lasts;
  count_is = c.count_there-count.ensures ∙ ap there c.deref.ensures.value;
}

pub returns-in-Err-turn-clause-numbers : goal.returns-in-Err-turn-clause-numbers
returns-in-Err-turn-clause-numbers g c = λ is.
    let old = scene c.args.client.now (g.W.Words.stream c.args.words.now) (g.E.Edge.deeds c.args.edge.now) (g.E.Edge.waits c.args.edge.now) (g.E.Edge.polls c.args.edge.now) (g.C.Clock.given c.args.clock.now) in
    let mid = scene c.loop-left.client (g.W.Words.stream c.loop-left.words) (g.E.Edge.deeds c.loop-left.edge) (g.E.Edge.waits c.loop-left.edge) (g.E.Edge.polls c.loop-left.edge) (g.C.Clock.given c.loop-left.clock) in
    let new = scene c.turn.new.client (g.W.Words.stream c.turn.new.words) (g.E.Edge.deeds c.turn.new.edge) (g.E.Edge.waits c.turn.new.edge) (g.E.Edge.polls c.turn.new.edge) (g.C.Clock.given c.turn.new.clock) in
    let count = c.loop-left.invariant.count_is in
    let len = c.len.ensures in
    let ok = c.loop-left.replies.ok.0 in
    let below = c.if-count-len.true in
    let missing : there c.loop-left.replies.items < length c.loop-left.replies.items = omega arith in
    turning_stops c.args.number c.args.requests.items old c.loop-left.left 1000000 mid new c.loop-left.replies.items
    (turning_of c.args.number c.args.requests.items old c.loop-left.left 1000000 mid c.loop-left.replies.items c.loop-left.invariant.waits missing)
    (c.in-Err-turn.ensures.numbers (same_error _ _ is)) (c.in-Err-turn.ensures.counted (same_error _ _ is))

pub count_there-count-requires-in-loop-left : goal.count_there-count-requires-in-loop-left
count_there-count-requires-in-loop-left g c =
    let kept : there c.loop-left.replies.items ≤ there c.deref-in-loop-left.result.now =
    subst (λ (rs : List (Option (Result (List ℕ) Error))). there c.loop-left.replies.items ≤ there rs) (sym (c.deref-in-loop-left.ensures.value ∙ c.take_replies.ensures))
    (there_kept c.loop-left.replies.items (of_each (λ k. reply_in k c.in-Ok-turn.row.outs) c.args.number (length c.loop-left.replies.items))) in
    subst (λ (n : ℕ). n ≤ there c.deref-in-loop-left.result.now) (sym c.loop-left.invariant.count_is) kept

pub loop-left-preserved : goal.loop-left-preserved
loop-left-preserved g c =
    let old = scene c.args.client.now (g.W.Words.stream c.args.words.now) (g.E.Edge.deeds c.args.edge.now) (g.E.Edge.waits c.args.edge.now) (g.E.Edge.polls c.args.edge.now) (g.C.Clock.given c.args.clock.now) in
    let mid = scene c.loop-left.client (g.W.Words.stream c.loop-left.words) (g.E.Edge.deeds c.loop-left.edge) (g.E.Edge.waits c.loop-left.edge) (g.E.Edge.polls c.loop-left.edge) (g.C.Clock.given c.loop-left.clock) in
    let new = scene c.turn.new.client (g.W.Words.stream c.turn.new.words) (g.E.Edge.deeds c.turn.new.edge) (g.E.Edge.waits c.turn.new.edge) (g.E.Edge.polls c.turn.new.edge) (g.C.Clock.given c.turn.new.clock) in
    let count = c.loop-left.invariant.count_is in
    let len = c.len.ensures in
    let ok = c.loop-left.replies.ok.0 in
    let below = c.if-count-len.true in
    let missing : there c.loop-left.replies.items < length c.loop-left.replies.items = omega arith in
    let p = turning_of c.args.number c.args.requests.items old c.loop-left.left 1000000 mid c.loop-left.replies.items c.loop-left.invariant.waits missing in
    record {
      waits =
          turning
          (turning_more c.args.number c.args.requests.items old c.loop-left.left 1000000 mid new c.loop-left.replies.items c.take_replies.new.replies.items p c.in-Ok-turn.row
          (asked_more p.all.last p.all.middle mid new p.all.asked c.in-Ok-turn.row (p.timeout ∙ sym p.all.timeout) p.lasts c.in-Ok-turn.ensures.row c.in-Ok-turn.ensures.turn c.in-Ok-turn.ensures.waits
          c.in-Ok-turn.ensures.polls c.in-Ok-turn.ensures.moment)
          missing c.loop-left-test.true c.in-Ok-turn.ensures.timeout c.in-Ok-turn.ensures.lasts c.take_replies.ensures);
      count_is = c.count_there-count-in-loop-left.ensures ∙ ap there c.deref-in-loop-left.ensures.value;
    }

pub returns-clause-answered : goal.returns-clause-answered
returns-clause-answered g c =
    let count = c.loop-left.invariant.count_is in
    let ok = c.loop-left.replies.ok.0 in
    let most = there_most c.loop-left.replies.items in
    all_answered c.args.number c.args.requests.items
    (scene c.args.client.now (g.W.Words.stream c.args.words.now) (g.E.Edge.deeds c.args.edge.now) (g.E.Edge.waits c.args.edge.now) (g.E.Edge.polls c.args.edge.now) (g.C.Clock.given c.args.clock.now))
    c.loop-left.left
    (scene c.loop-left.client (g.W.Words.stream c.loop-left.words) (g.E.Edge.deeds c.loop-left.edge) (g.E.Edge.waits c.loop-left.edge) (g.E.Edge.polls c.loop-left.edge) (g.C.Clock.given c.loop-left.clock)) c.loop-left.replies.items
    c.loop-left.invariant.waits (elim c.loop-left-test.branch [
      | then-loop-left-test+else-count-len w ↦ inl (let len = w.len.ensures in let above = w.if-count-len.false in omega arith)
      | else-loop-left-test w ↦ inr w.loop-left-test.false
    ])
