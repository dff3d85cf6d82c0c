-- Servers that are surveyed one after another.
use Rattle.std.proofs.Common.{◌≡◌, ℕ, zero, suc, ◌+◌, ◌-◌, ◌<◌, ◌≤◌, ap, arith, List}
use Rattle.client_choice.specs.Bursts.{Survey, surveys, surveys_one}
use Rattle.client_choice.specs.Servers.{Server}

-- one more of them
pub surveys-step : {U : Type 0} (now i n : ℕ) (servers : List (Server U)) (y : Survey) → i < n
    → surveys now i (n - i) servers y ≡ surveys now (i + 1) (n - (i + 1)) servers (surveys_one now i servers y)
surveys-step now i n servers y within = let e : n - i ≡ suc (n - (i + 1)) = omega arith in ap (λ count. surveys now i count servers y) e

-- none is left
pub surveys-done : {U : Type 0} (now i n : ℕ) (servers : List (Server U)) (y : Survey) → n ≤ i → surveys now i (n - i) servers y ≡ y
surveys-done now i n servers y past = let e : n - i ≡ zero = omega arith in ap (λ count. surveys now i count servers y) e
