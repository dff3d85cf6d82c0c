-- Counts of the numbers that pass a test, where the test changes at one number.
use Rattle.std.proofs.Common.{◌≡◌, ℕ, zero, suc, ◌+◌, ◌<◌, ◌≤◌, Bool, true, false, ◌≢◌, ◌⊎◌, inl, inr, refl, arith}
use Rattle.std.proofs.lemmas.Bool.{cases_eq}
use Rattle.right_trace.specs.Time.{count_below, one_if}

pub count_same : (f g : ℕ → Bool) (n : ℕ) → ((q : ℕ) → q < n → f q ≡ g q) → count_below f n ≡ count_below g n
count_same f g zero same = refl
count_same f g (suc n) same =
    let i = count_same f g n (λ q lt. same q (omega arith)) in
    let e = same n (omega arith) in
    grind arith

-- the numbers below n are the same
pub count_last : (f g : ℕ → Bool) (n : ℕ) → ((q : ℕ) → q ≢ n → f q ≡ g q) → count_below g (suc n) ≡ count_below f n + one_if (g n)
count_last f g n same =
    let i = count_same f g n (λ q lt. same q (omega arith)) in
    grind arith

pub count_change : (f g : ℕ → Bool) (n p : ℕ) → p < n → ((q : ℕ) → q ≢ p → f q ≡ g q) → count_below g n + one_if (f p) ≡ count_below f n + one_if (g p)
count_change f g zero p lt same = absurd (omega arith)
count_change f g (suc n) p lt same = cases (cases_eq n p) (count_change f g n p)
  where
    cases : (n ≡ p) ⊎ (n ≡ p → ⊥) → (p < n → ((q : ℕ) → q ≢ p → f q ≡ g q) → count_below g n + one_if (f p) ≡ count_below f n + one_if (g p)) → count_below g (suc n) + one_if (f p) ≡ count_below f (suc n) + one_if (g p)
    cases (inl e) ih =
        let i = count_same f g n (λ q l. same q (omega arith)) in
        grind arith
    cases (inr ne) ih =
        let i = ih (omega arith) same in
        let e = same n ne in
        grind arith

pub count_more : (f g : ℕ → Bool) (n : ℕ) → ((q : ℕ) → f q ≡ true → g q ≡ true) → count_below f n ≤ count_below g n
count_more f g zero more = omega arith
count_more f g (suc n) more =
    let i = count_more f g n more in
    let one : one_if (f n) ≤ one_if (g n) = go (f n) (g n) (more n) in
    omega arith
  where
    go : (x y : Bool) → (x ≡ true → y ≡ true) → one_if x ≤ one_if y
    go false y e = grind arith
    go true y e = rw (e refl) (omega arith)
