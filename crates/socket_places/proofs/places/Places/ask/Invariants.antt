use Rattle.std.proofs.Common.{◌≡◌, ◌++◌}
use Rattle.socket_places.specs.Table.{asked_of_all}
use Rattle.socket_places.proofs.places.Places.ask.Given as goal

-- what was asked, and what is still to be asked, are all of it
abbrev pub invariant-loop-place : goal.invariant-loop-place
invariant-loop-place g l = l.asked.items ++ asked_of_all l.place-iterator ≡ l.initial.asked.items ++ asked_of_all l.self
