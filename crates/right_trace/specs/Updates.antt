-- Functions of numbers that are changed at one of them.
use Rattle.std.specs.Prelude.{ℕ, ◌==◌, if◌then◌else◌, Option}

-- a function with another value at k
abbrev pub with_at : {V : Type 0} → ℕ → Option V → (ℕ → Option V) → ℕ → Option V
with_at k v f j = if k == j then v else f j
