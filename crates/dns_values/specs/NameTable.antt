-- The tables of the code as those of the specification.
use Rattle.std.specs.Prelude.{ℕ, List, map}
use Rattle.std.specs.Borrow.{Bor}

abbrev pub told : List (ℕ × Bor (List ℕ)) → List (ℕ × List ℕ)
told names = map (λ entry. (entry.0, entry.1.now)) names
