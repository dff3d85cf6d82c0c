use Rattle.std.proofs.Common.{inl, inr, sym, ◌∙◌}
use Rattle.client_loop.specs.Asking.{scene}
use Rattle.client_loop.proofs.BothTurning.{both_answered, pending_first, pending_more, stop_pending}
use Rattle.client_loop.proofs.Turning.{asked_more, same_error}
use Rattle.client_loop.proofs.both.ask_both.Goals as goal
use Rattle.client_loop.proofs.both.ask_both.Goals.{then-loop-left-test+else-not-are_there, else-loop-left-test}

pub loop-left-init : goal.loop-left-init
loop-left-init g c = record {
  waits =
      pending_first c.args.number c.args.first c.args.second (scene c.args.client.now (g.W.Words.stream c.args.words.now) (g.E.Edge.deeds c.args.edge.now) (g.E.Edge.waits c.args.edge.now) (g.E.Edge.polls c.args.edge.now) (g.C.Clock.given c.args.clock.now))
      1000000 (scene c.begin_both.new.client (g.W.Words.stream c.begin_both.new.words) (g.E.Edge.deeds c.begin_both.new.edge) (g.E.Edge.waits c.begin_both.new.edge) (g.E.Edge.polls c.begin_both.new.edge) (g.C.Clock.given c.begin_both.new.clock)) c.in-Ok.replies c.in-Ok.ensures.begun;
  timeout = c.in-Ok.ensures.timeout;
  lasts = c.in-Ok.ensures.lasts;
}

pub returns-in-Err-turn-clause-numbers : goal.returns-in-Err-turn-clause-numbers
returns-in-Err-turn-clause-numbers g c = λ is.
    stop_pending c.args.number c.args.first c.args.second (scene c.args.client.now (g.W.Words.stream c.args.words.now) (g.E.Edge.deeds c.args.edge.now) (g.E.Edge.waits c.args.edge.now) (g.E.Edge.polls c.args.edge.now) (g.C.Clock.given c.args.clock.now))
    c.loop-left.left 1000000 (scene c.loop-left.client (g.W.Words.stream c.loop-left.words) (g.E.Edge.deeds c.loop-left.edge) (g.E.Edge.waits c.loop-left.edge) (g.E.Edge.polls c.loop-left.edge) (g.C.Clock.given c.loop-left.clock)) (scene c.turn.new.client (g.W.Words.stream c.turn.new.words) (g.E.Edge.deeds c.turn.new.edge) (g.E.Edge.waits c.turn.new.edge) (g.E.Edge.polls c.turn.new.edge) (g.C.Clock.given c.turn.new.clock))
    c.loop-left.replies c.loop-left.invariant.waits c.loop-left.invariant.timeout (c.in-Err-turn.ensures.numbers (same_error _ _ is)) (c.in-Err-turn.ensures.counted (same_error _ _ is))

pub loop-left-preserved : goal.loop-left-preserved
loop-left-preserved g c =
    let p = c.loop-left.invariant.waits in
    let old = scene c.args.client.now (g.W.Words.stream c.args.words.now) (g.E.Edge.deeds c.args.edge.now) (g.E.Edge.waits c.args.edge.now) (g.E.Edge.polls c.args.edge.now) (g.C.Clock.given c.args.clock.now) in
    let mid = scene c.loop-left.client (g.W.Words.stream c.loop-left.words) (g.E.Edge.deeds c.loop-left.edge) (g.E.Edge.waits c.loop-left.edge) (g.E.Edge.polls c.loop-left.edge) (g.C.Clock.given c.loop-left.clock) in
    let new = scene c.turn.new.client (g.W.Words.stream c.turn.new.words) (g.E.Edge.deeds c.turn.new.edge) (g.E.Edge.waits c.turn.new.edge) (g.E.Edge.polls c.turn.new.edge) (g.C.Clock.given c.turn.new.clock) in
    record {
      waits =
          pending_more c.args.number c.args.first c.args.second old c.loop-left.left 1000000 mid new c.loop-left.replies c.replies_in.result c.or-replies.result p c.in-Ok-turn.row
          (asked_more c.args.second p.both.middle mid new p.both.asked c.in-Ok-turn.row (c.loop-left.invariant.timeout ∙ sym p.both.timeout) c.loop-left.invariant.lasts c.in-Ok-turn.ensures.row c.in-Ok-turn.ensures.turn c.in-Ok-turn.ensures.waits
          c.in-Ok-turn.ensures.polls c.in-Ok-turn.ensures.moment)
          (sym c.are_there.ensures ∙ c.if-not-are_there.true) c.loop-left-test.true c.replies_in.ensures c.or-replies.ensures;
      timeout = c.in-Ok-turn.ensures.timeout ∙ c.loop-left.invariant.timeout;
      lasts = c.in-Ok-turn.ensures.lasts;
    }

pub returns-clause-answered : goal.returns-clause-answered
returns-clause-answered g c =
    both_answered c.args.number c.args.first c.args.second (scene c.args.client.now (g.W.Words.stream c.args.words.now) (g.E.Edge.deeds c.args.edge.now) (g.E.Edge.waits c.args.edge.now) (g.E.Edge.polls c.args.edge.now) (g.C.Clock.given c.args.clock.now))
    c.loop-left.left 1000000 (scene c.loop-left.client (g.W.Words.stream c.loop-left.words) (g.E.Edge.deeds c.loop-left.edge) (g.E.Edge.waits c.loop-left.edge) (g.E.Edge.polls c.loop-left.edge) (g.C.Clock.given c.loop-left.clock)) c.loop-left.replies c.loop-left.invariant.waits
    (elim c.loop-left-test.branch [ then-loop-left-test+else-not-are_there w ↦ inl (sym w.are_there.ensures ∙ w.if-not-are_there.false) | else-loop-left-test w ↦ inr w.loop-left-test.false ])
