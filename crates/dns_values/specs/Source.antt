-- What sources of octets give, and the count of their faults.
use Rattle.std.specs.Prelude.{◌≢◌, ◌==◌, ℕ, ◌<◌, ◌≤◌, ◌+◌, min, Bool, List, Option, None, Some, drop}
use Rattle.std.specs.List.{list_any}

-- the last value of a count of 64 bits
abbrev pub last_count : ℕ
last_count = 18446744073709551615

-- the most octets that are read of a configuration, or of a script
abbrev pub most_text : ℕ
most_text = 16777216

-- the count rose; where it stands at its last value, it stays there
abbrev pub Rose : ℕ → ℕ → Type 0
Rose old new = (old ≤ new) × (old ≢ last_count → old < new)

-- the count after one more
abbrev pub one_more : ℕ → ℕ
one_more n = min (n + 1) last_count

-- whether the call of this number is in the list
abbrev pub is_listed : ℕ → List ℕ → Bool
is_listed call calls = list_any (λ n. n == call) calls

-- the octets that are left after n of them, where they are told
abbrev pub after_octets : ℕ → Option (List ℕ) → Option (List ℕ)
after_octets n None = None
after_octets n (Some xs) = Some (drop n xs)

-- a source in memory: what is left to read, the numbers of the calls that fail, the calls so far, and the faults
pub record SourceInMemory : Type 0 where
  pub rest : List ℕ
  pub fails : List ℕ
  pub calls : ℕ
  pub faults : ℕ
