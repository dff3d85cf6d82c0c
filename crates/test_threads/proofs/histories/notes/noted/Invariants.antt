use Rattle.std.proofs.Common.{[], ◌∷◌}
use Rattle.test_threads.proofs.histories.notes.noted.Given as goal

-- the note that is put
abbrev pub ghosts-append : goal.ghosts-append
ghosts-append a = record { items = a.item.now ∷ [] }
