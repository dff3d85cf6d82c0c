use Rattle.std.proofs.Common.{[], ◌∷◌}
use Rattle.front_shared.proofs.stepping.end.Given as goal

-- the item that is put
abbrev pub ghosts-append : goal.ghosts-append
ghosts-append g a = record { items = a.item.now ∷ [] }
