use Rattle.std.proofs.Common.{◌≡◌, ◌++◌}
use Rattle.socket_places.specs.Table.{numbers_found}
use Rattle.socket_places.proofs.places.Places.find.Given as goal

-- what was found, and what is still to be found, are all of it
abbrev pub invariant-loop-number : goal.invariant-loop-number
invariant-loop-number g l = l.found.items ++ numbers_found (g.N.Network.found l.network) l.at l.number-iterator ≡ l.initial.found.items ++ numbers_found (g.N.Network.found l.network) l.initial.at l.self
