use Rattle.client_loop.specs.Asking.{scene}
use Rattle.client_loop.specs.Both.{at_second}
use Rattle.client_loop.proofs.BothTurning.{both_begun}
use Rattle.client_loop.proofs.Turning.{same_error}
use Rattle.client_loop.proofs.both.begin_both.Goals as goal

pub returns-in-Err-clause-numbers : goal.returns-in-Err-clause-numbers
returns-in-Err-clause-numbers g c = λ is. at_second (scene c.begin.new.client (g.W.Words.stream c.begin.new.words) (g.E.Edge.deeds c.begin.new.edge) (g.E.Edge.waits c.begin.new.edge) (g.E.Edge.polls c.begin.new.edge) (g.C.Clock.given c.begin.new.clock)) c.in_ok-row.row c.in_ok-row.ensures.begun (c.in-Err.ensures.numbers (same_error _ _ is))

pub returns-clause-begun : goal.returns-clause-begun
returns-clause-begun g c =
    both_begun c.args.number c.args.first c.args.second (scene c.args.client.now (g.W.Words.stream c.args.words.now) (g.E.Edge.deeds c.args.edge.now) (g.E.Edge.waits c.args.edge.now) (g.E.Edge.polls c.args.edge.now) (g.C.Clock.given c.args.clock.now))
    (scene c.begin.new.client (g.W.Words.stream c.begin.new.words) (g.E.Edge.deeds c.begin.new.edge) (g.E.Edge.waits c.begin.new.edge) (g.E.Edge.polls c.begin.new.edge) (g.C.Clock.given c.begin.new.clock))
    (scene c.begin-2.new.client (g.W.Words.stream c.begin-2.new.words) (g.E.Edge.deeds c.begin-2.new.edge) (g.E.Edge.waits c.begin-2.new.edge) (g.E.Edge.polls c.begin-2.new.edge) (g.C.Clock.given c.begin-2.new.clock))
    c.in_ok-row.row c.in-Ok.row c.or.result c.replies_in-at_first.result c.replies_in.result c.in_ok-row.ensures.begun c.in_ok-row.ensures.timeout c.in-Ok.ensures.begun c.replies_in-at_first.ensures c.replies_in.ensures c.or.ensures
