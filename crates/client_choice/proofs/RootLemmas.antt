-- Square roots of whole numbers: there is one number alone between whose squares a number lies.
use Rattle.std.specs.Prelude.{ℕ, zero, suc, ◌+◌, ◌*◌, ◌<◌, ◌≤◌, ◌≡◌, ◌⊎◌, Bool, true, false, nat_le, if◌then◌else◌}
use Rattle.std.proofs.Common.{refl, sym, arith, inl, inr}
use Rattle.std.proofs.lemmas.Bool.Decides.{nat_tests}
use Rattle.std.proofs.lemmas.Bool.{cases_lt}
use Rattle.std.proofs.lemmas.Nat.{mul-le, mul-lt}
use Rattle.client_choice.specs.Roots.{root_up_to, isqrt}

-- a number whose square is at most n is no greater than one whose next square is past n
root_below : (n r k : ℕ) → n < (r + 1) * (r + 1) → k * k ≤ n → k ≤ r
root_below n r k above square = go (cases_lt r k)
  where
    go : (r < k) ⊎ (k ≤ r) → k ≤ r
    go (inl less) = absurd (omega (arith, mul-le (r + 1) (r + 1) k k (omega arith) (omega arith)))
    go (inr most) = most

root_up_to_is : (n r k : ℕ) → r * r ≤ n → n < (r + 1) * (r + 1) → r ≤ k → root_up_to n k ≡ r
unfolding root_up_to
root_up_to_is n r zero below above within = omega arith
root_up_to_is n r (suc k) below above within = go (nat_le (suc k * suc k) n) refl (root_up_to_is n r k below above)
  where
    less : n < suc k * suc k → (r < suc k) ⊎ (suc k ≤ r) → r ≤ k
    less past (inl h) = omega arith
    less past (inr h) = absurd (omega (arith, mul-le (suc k) (suc k) r r h h))

    go : (b : Bool) → nat_le (suc k * suc k) n ≡ b → (r ≤ k → root_up_to n k ≡ r) → (if b then suc k else root_up_to n k) ≡ r
    go true e again =
        let square : suc k * suc k ≤ n = grind (arith, nat_tests) in
        let most : suc k ≤ r = root_below n r (suc k) above square in
        omega arith
    go false e again =
        let past : n < suc k * suc k = grind (arith, nat_tests) in
        again (less past (cases_lt r (suc k)))

square_at_least : (r : ℕ) → r ≤ r * r
square_at_least zero = omega arith
square_at_least (suc r) = omega (arith, mul-le 1 (suc r) (suc r) (suc r) (omega arith) (omega arith))

-- the root of n is the number r between whose squares n lies
pub isqrt_is : (n r : ℕ) → r * r ≤ n → n < (r + 1) * (r + 1) → r ≡ isqrt n
unfolding isqrt
isqrt_is n r below above = sym (root_up_to_is n r n below above (omega (arith, square_at_least r)))

-- the square of a root is no greater than the number
square_up_to : (n k : ℕ) → root_up_to n k * root_up_to n k ≤ n
unfolding root_up_to
square_up_to n zero = omega arith
square_up_to n (suc k) = go (nat_le (suc k * suc k) n) refl (square_up_to n k)
  where
    go : (b : Bool) → nat_le (suc k * suc k) n ≡ b → root_up_to n k * root_up_to n k ≤ n → (if b then suc k else root_up_to n k) * (if b then suc k else root_up_to n k) ≤ n
    go true e again = grind (arith, nat_tests)
    go false e again = again

-- the root of a number that is at most a square is at most that square's root
pub isqrt_le : (n m : ℕ) → n ≤ m * m → isqrt n ≤ m
unfolding isqrt
isqrt_le n m h = go (cases_lt m (root_up_to n n))
  where
    go : (m < root_up_to n n) ⊎ (root_up_to n n ≤ m) → root_up_to n n ≤ m
    go (inl less) = absurd (omega (arith, square_up_to n n, mul-lt m m (root_up_to n n) (root_up_to n n) less less))
    go (inr most) = most
