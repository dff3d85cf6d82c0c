use Rattle.std.proofs.Common.{◌≡◌, ◌++◌}
use Rattle.std.specs.Prelude.{drop}
use Rattle.listener_peers.specs.Waits.{found_among}
use Rattle.listener_peers.proofs.books.keep_found.Given as goal

-- what was found, and what is still to be found, are all of it
abbrev pub invariant-loop-spot : goal.invariant-loop-spot
invariant-loop-spot g l = l.found.items ++ found_among l.places.finds l.at (drop l.spot-index l.spots) ≡ l.initial.found.items ++ found_among l.places.finds l.initial.at l.spots
