-- The queries that wait, by their requests.
use Rattle.std.specs.Prelude.{◌≡◌, ℕ, List, [], ◌∷◌, length, Option, None, Some}
use Rattle.std.specs.List.{flat_map}
use Rattle.std.specs.List.Sorted.{IsStrictlySortedBy}
use Rattle.std.specs.Map.{keys_of, values_of}
use Rattle.std.specs.Ordering.{nat_cmp}
use Rattle.front_peers.specs.declared.items.Asker.{Asker}
use Rattle.front_steps.specs.declared.waits.Waiting.{Waiting}

-- The requests that wait by their numbers, the same numbers by what is asked, and the number of the next request.
pub record Waits : Type 0 where
  pub requests : List (ℕ × Waiting)
  pub numbers : List (List ℕ × ℕ)
  pub next : ℕ

-- the queries that wait for the reply to one request
abbrev pub askers_of : Waiting → List Asker
askers_of waiting = waiting.first ∷ waiting.others

abbrev pub askers_or_none : Option Waiting → List Asker
askers_or_none None = []
askers_or_none (Some waiting) = askers_of waiting

-- the queries that wait, request by request
abbrev pub askers_in : List (ℕ × Waiting) → List Asker
askers_in requests = flat_map askers_of (values_of requests)

-- This is how many queries wait, by requests in rising order of their numbers.
pub record Counts (count : ℕ) (requests : List (ℕ × Waiting)) : Type 0 where
  pub count_is : count ≡ length (askers_in requests)
  pub in_order : IsStrictlySortedBy nat_cmp (keys_of requests)
