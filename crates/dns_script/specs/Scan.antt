-- How far a search of some octets got.
use Rattle.std.specs.Prelude.{◌≡◌, ℕ, ◌+◌, ◌<◌, ◌≤◌, Bool, true, false, List, slice_index}

-- of `lanes` octets from a place on, `run` stand before the first that passes
pub record IsRunAt (test : ℕ → Bool) (octets : List ℕ) (from lanes run : ℕ) : Type 0 where
  pub within : run ≤ lanes
  pub before : (k : ℕ) → from ≤ k → k < from + run → test (slice_index octets k) ≡ false
  pub stops : run < lanes → test (slice_index octets (from + run)) ≡ true
