use Rattle.std.proofs.Common.{◌≡◌, ◌++◌}
use Rattle.listener_peers.specs.Waits.{asked_of_peers, spots_of_peers}
use Rattle.listener_peers.proofs.peers.Peers.ask.Given as goal

-- what was asked, and what is still to be asked, are all of it
abbrev pub invariant-loop-number : goal.invariant-loop-number
invariant-loop-number g l =
    (l.asked.items ++ asked_of_peers l.number-iterator ≡ l.initial.asked.items ++ asked_of_peers l.self.open_ones)
    × (l.spots.items ++ spots_of_peers l.number-iterator ≡ l.initial.spots.items ++ spots_of_peers l.self.open_ones)
