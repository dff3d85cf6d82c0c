-- What sinks of octets hold.
use Rattle.std.specs.Prelude.{◌≡◌, ℕ, List, Option, None, Some, ◌++◌}

-- what is held after these octets were added, where it is told
abbrev pub with_octets : List ℕ → Option (List ℕ) → Option (List ℕ)
with_octets ys None = None
with_octets ys (Some xs) = Some (xs ++ ys)

-- all that is held was handed on, where both are told
abbrev pub IsFlushed : Option (List ℕ) → Option (List ℕ) → Type 0
IsFlushed held None = Unit {0}
IsFlushed None (Some ys) = Unit {0}
IsFlushed (Some xs) (Some ys) = ys ≡ xs

-- a sink in memory: what it holds and how much of it was handed on, the numbers of the calls that fail and of those that take nothing, the calls so far, and the faults
pub record SinkInMemory : Type 0 where
  pub octets : List ℕ
  pub flushed : ℕ
  pub fails : List ℕ
  pub takes_nothing : List ℕ
  pub calls : ℕ
  pub faults : ℕ
