-- Readers and writers of the standard library, with a count of their faults.
use Rattle.std.specs.Prelude.{ℕ}

-- a reader or a writer, and the faults so far
pub record Counted (T : Type 0) : Type 0 where
  pub inner : T
  pub faults : ℕ
