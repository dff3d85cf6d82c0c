-- Square roots of whole numbers.
use Rattle.std.specs.Prelude.{ℕ, zero, suc, ◌*◌, nat_le, if◌then◌else◌}

-- the greatest number of at most k whose square is at most n
unfoldable pub root_up_to : (n k : ℕ) → ℕ
root_up_to n zero = zero
root_up_to n (suc k) = if nat_le (suc k * suc k) n then suc k else root_up_to n k

-- the greatest number whose square is at most n
unfoldable pub isqrt : ℕ → ℕ
unfolding root_up_to
isqrt n = root_up_to n n
