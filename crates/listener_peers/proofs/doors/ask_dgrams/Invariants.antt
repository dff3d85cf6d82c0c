use Rattle.std.proofs.Common.{◌≡◌, ◌++◌}
use Rattle.std.specs.Prelude.{drop}
use Rattle.listener_peers.specs.Waits.{asked_of_doors, spots_of_doors}
use Rattle.listener_peers.proofs.doors.ask_dgrams.Given as goal

-- what was asked, and what is still to be asked, are all of it
abbrev pub invariant-loop-door : goal.invariant-loop-door
invariant-loop-door g l =
    (l.asked.items ++ asked_of_doors (drop l.door-index l.doors) ≡ l.fn.asked.items ++ asked_of_doors l.fn.doors)
    × (l.spots.items ++ spots_of_doors l.at (drop l.door-index l.doors) ≡ l.fn.spots.items ++ spots_of_doors 0 l.fn.doors)
