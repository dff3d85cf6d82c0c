use Rattle.std.proofs.Common.{List, Option, length}
use Rattle.listener_peers.specs.Batches.{SendsAll}
use Rattle.listener_peers.specs.declared.listener.Post.{Post}
use Rattle.listener_peers.proofs.batch.send_all.Given as goal

-- what is sent from here on is sent behind what was
abbrev pub invariant-loop-next : goal.invariant-loop-next
invariant-loop-next g l =
    (posts : Option (List Post)) → SendsAll l.unsent.items (g.D.DgramListener.posts l.socket) posts → SendsAll l.fn.unsent.items (g.D.DgramListener.posts l.fn.socket) posts

abbrev pub decreases-loop-next : goal.decreases-loop-next
decreases-loop-next g l = length l.unsent.items
