use Rattle.std.proofs.Common.{sym, ◌∙◌}
use Rattle.client_loop.specs.Asking.{scene}
use Rattle.client_loop.proofs.Turning.{answered_first, answered_more, answered_none, asked_more, same_error, stops_more, waits_first, waits_more}
use Rattle.client_loop.proofs.asking.ask_within.Goals as goal

pub returns-in-Some-clause-answered : goal.returns-in-Some-clause-answered
returns-in-Some-clause-answered g c =
    answered_first c.args.request
    (scene c.args.client.now (g.W.Words.stream c.args.words.now) (g.E.Edge.deeds c.args.edge.now) (g.E.Edge.waits c.args.edge.now) (g.E.Edge.polls c.args.edge.now) (g.C.Clock.given c.args.clock.now))
    c.args.number c.args.most
    (scene c.begin.new.client (g.W.Words.stream c.begin.new.words) (g.E.Edge.deeds c.begin.new.edge) (g.E.Edge.waits c.begin.new.edge) (g.E.Edge.polls c.begin.new.edge) (g.C.Clock.given c.begin.new.clock))
    c.in_ok-row.row c.in-Some.reply c.in_ok-row.ensures.begun (sym c.in-Some.ensures)

pub loop-left-init : goal.loop-left-init
loop-left-init g c = record {
  waits =
      waits_first c.args.request
      (scene c.args.client.now (g.W.Words.stream c.args.words.now) (g.E.Edge.deeds c.args.edge.now) (g.E.Edge.waits c.args.edge.now) (g.E.Edge.polls c.args.edge.now) (g.C.Clock.given c.args.clock.now))
      c.args.number c.args.most
      (scene c.begin.new.client (g.W.Words.stream c.begin.new.words) (g.E.Edge.deeds c.begin.new.edge) (g.E.Edge.waits c.begin.new.edge) (g.E.Edge.polls c.begin.new.edge) (g.C.Clock.given c.begin.new.clock))
      c.in_ok-row.row c.in_ok-row.ensures.begun (sym c.in-None.ensures);
  timeout = c.in_ok-row.ensures.timeout;
  lasts = c.in_ok-row.ensures.lasts;
}

pub returns-in-Err-clause-numbers : goal.returns-in-Err-clause-numbers
returns-in-Err-clause-numbers g c = λ is.
    stops_more c.args.request
    (scene c.args.client.now (g.W.Words.stream c.args.words.now) (g.E.Edge.deeds c.args.edge.now) (g.E.Edge.waits c.args.edge.now) (g.E.Edge.polls c.args.edge.now) (g.C.Clock.given c.args.clock.now))
    (scene c.loop-left.client (g.W.Words.stream c.loop-left.words) (g.E.Edge.deeds c.loop-left.edge) (g.E.Edge.waits c.loop-left.edge) (g.E.Edge.polls c.loop-left.edge) (g.C.Clock.given c.loop-left.clock))
    (scene c.turn.new.client (g.W.Words.stream c.turn.new.words) (g.E.Edge.deeds c.turn.new.edge) (g.E.Edge.waits c.turn.new.edge) (g.E.Edge.polls c.turn.new.edge) (g.C.Clock.given c.turn.new.clock))
    c.loop-left.invariant.waits.asked c.loop-left.invariant.timeout (c.in-Err.ensures.numbers (same_error _ _ is)) (c.in-Err.ensures.counted (same_error _ _ is))

pub returns-in-Some-reply_in-clause-answered : goal.returns-in-Some-reply_in-clause-answered
returns-in-Some-reply_in-clause-answered g c =
    let old = scene c.args.client.now (g.W.Words.stream c.args.words.now) (g.E.Edge.deeds c.args.edge.now) (g.E.Edge.waits c.args.edge.now) (g.E.Edge.polls c.args.edge.now) (g.C.Clock.given c.args.clock.now) in
    let mid = scene c.loop-left.client (g.W.Words.stream c.loop-left.words) (g.E.Edge.deeds c.loop-left.edge) (g.E.Edge.waits c.loop-left.edge) (g.E.Edge.polls c.loop-left.edge) (g.C.Clock.given c.loop-left.clock) in
    let new = scene c.turn.new.client (g.W.Words.stream c.turn.new.words) (g.E.Edge.deeds c.turn.new.edge) (g.E.Edge.waits c.turn.new.edge) (g.E.Edge.polls c.turn.new.edge) (g.C.Clock.given c.turn.new.clock) in
    answered_more c.args.request old c.args.number c.loop-left.left c.args.most mid new c.loop-left.invariant.waits c.in-Ok.row c.in-Some-reply_in.reply
    (asked_more c.args.request old mid new c.loop-left.invariant.waits.asked c.in-Ok.row c.loop-left.invariant.timeout c.loop-left.invariant.lasts c.in-Ok.ensures.row c.in-Ok.ensures.turn c.in-Ok.ensures.waits c.in-Ok.ensures.polls c.in-Ok.ensures.moment)
    (sym c.in-Some-reply_in.ensures) c.loop-left-test.true

pub loop-left-preserved : goal.loop-left-preserved
loop-left-preserved g c =
    let old = scene c.args.client.now (g.W.Words.stream c.args.words.now) (g.E.Edge.deeds c.args.edge.now) (g.E.Edge.waits c.args.edge.now) (g.E.Edge.polls c.args.edge.now) (g.C.Clock.given c.args.clock.now) in
    let mid = scene c.loop-left.client (g.W.Words.stream c.loop-left.words) (g.E.Edge.deeds c.loop-left.edge) (g.E.Edge.waits c.loop-left.edge) (g.E.Edge.polls c.loop-left.edge) (g.C.Clock.given c.loop-left.clock) in
    let new = scene c.turn.new.client (g.W.Words.stream c.turn.new.words) (g.E.Edge.deeds c.turn.new.edge) (g.E.Edge.waits c.turn.new.edge) (g.E.Edge.polls c.turn.new.edge) (g.C.Clock.given c.turn.new.clock) in
    record {
      waits =
          waits_more c.args.request old c.args.number c.loop-left.left c.args.most mid new c.loop-left.invariant.waits c.in-Ok.row
          (asked_more c.args.request old mid new c.loop-left.invariant.waits.asked c.in-Ok.row c.loop-left.invariant.timeout c.loop-left.invariant.lasts c.in-Ok.ensures.row c.in-Ok.ensures.turn c.in-Ok.ensures.waits c.in-Ok.ensures.polls c.in-Ok.ensures.moment)
          (sym c.in-None-reply_in.ensures) c.loop-left-test.true;
      timeout = c.in-Ok.ensures.timeout ∙ c.loop-left.invariant.timeout;
      lasts = c.in-Ok.ensures.lasts;
    }

pub returns-clause-answered : goal.returns-clause-answered
returns-clause-answered g c =
    answered_none c.args.request
    (scene c.args.client.now (g.W.Words.stream c.args.words.now) (g.E.Edge.deeds c.args.edge.now) (g.E.Edge.waits c.args.edge.now) (g.E.Edge.polls c.args.edge.now) (g.C.Clock.given c.args.clock.now))
    c.args.number c.loop-left.left c.args.most
    (scene c.loop-left.client (g.W.Words.stream c.loop-left.words) (g.E.Edge.deeds c.loop-left.edge) (g.E.Edge.waits c.loop-left.edge) (g.E.Edge.polls c.loop-left.edge) (g.C.Clock.given c.loop-left.clock))
    c.loop-left.invariant.waits c.loop-left-test.false
