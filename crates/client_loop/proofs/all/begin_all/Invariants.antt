use Rattle.std.proofs.Common.{length}
use Rattle.client_loop.specs.Asking.{scene}
use Rattle.client_loop.proofs.AllTurning.{Opening}
use Rattle.client_loop.proofs.all.begin_all.Given as goal

abbrev pub invariant-loop-request : goal.invariant-loop-request
invariant-loop-request g l = Opening l.fn.number l.fn.requests.items
    (scene l.fn.client (g.W.Words.stream l.fn.words) (g.E.Edge.deeds l.fn.edge) (g.E.Edge.waits l.fn.edge) (g.E.Edge.polls l.fn.edge) (g.C.Clock.given l.fn.clock))
    (scene l.client (g.W.Words.stream l.words) (g.E.Edge.deeds l.edge) (g.E.Edge.waits l.edge) (g.E.Edge.polls l.edge) (g.C.Clock.given l.clock)) l.left.items l.replies.items

abbrev pub decreases-loop-request : goal.decreases-loop-request
decreases-loop-request g l = length l.left.items
