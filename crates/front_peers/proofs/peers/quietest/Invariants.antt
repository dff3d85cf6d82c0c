use Rattle.std.proofs.Common.{◌≡◌, None}
use Rattle.front_peers.specs.Items as spec
use Rattle.front_peers.proofs.peers.quietest.Given as goal

-- of those that are left, and who was quiet longest of those before, and of all it is the same one
abbrev pub invariant-loop-peer : goal.invariant-loop-peer
invariant-loop-peer l = spec.quietest l.first l.peer-iterator ≡ spec.quietest None l.streams
