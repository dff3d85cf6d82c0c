-- How many numbers pass a test that another one passes too.
use Rattle.std.proofs.Common.{◌≡◌, ℕ, zero, suc, ◌+◌, ◌<◌, ◌≤◌, ◌==◌, Bool, true, false, refl, sym, ap, ap₂, ◌∙◌, arith}
use Rattle.std.proofs.lemmas.Bool.Decides.{nat_tests}
use Rattle.right_trace.specs.Time.{one_if, count_below}

pub count_same : (f g : ℕ → Bool) (n : ℕ) → ((m : ℕ) → f m ≡ g m) → count_below f n ≡ count_below g n
count_same f g zero e = refl
count_same f g (suc n) e = ap₂ (λ a b. a + one_if b) (count_same f g n e) (e n)

none_below : (f : ℕ → Bool) (n : ℕ) → ((m : ℕ) → m < n → f m ≡ false) → count_below f n ≡ 0
none_below f zero e = refl
none_below f (suc n) e = ap₂ (λ a b. a + one_if b) (none_below f n (λ m lt. e m (less m n lt))) (e n (own n))
  where
    less : (m n : ℕ) → m < n → m < suc n
    less m n lt = omega arith

    own : (n : ℕ) → n < suc n
    own n = omega arith

pub none_counted : (f : ℕ → Bool) (n : ℕ) → ((m : ℕ) → f m ≡ false) → count_below f n ≡ 0
none_counted f n e = none_below f n (λ m lt. e m)

-- below a number that only one of two tests passes they count the same
same_below : (f g : ℕ → Bool) (i n : ℕ) → n ≤ i → ((m : ℕ) → (m == i) ≡ false → g m ≡ f m) → count_below g n ≡ count_below f n
same_below f g i zero le e = refl
same_below f g i (suc n) le e = ap₂ (λ a b. a + one_if b) (same_below f g i n (less n i le) e) (e n (other n i le))
  where
    less : (n i : ℕ) → suc n ≤ i → n ≤ i
    less n i le = omega arith

    other : (n i : ℕ) → suc n ≤ i → (n == i) ≡ false
    other n i le = grind (arith, nat_tests)

pub one_more : (f g : ℕ → Bool) (i n : ℕ) → i < n → g i ≡ true → f i ≡ false → ((m : ℕ) → (m == i) ≡ false → g m ≡ f m) → count_below g n ≡ suc (count_below f n)
one_more f g i zero lt a b e = absurd (omega arith)
one_more f g i (suc n) lt a b e = go (n == i) refl (λ lt. one_more f g i n lt a b e)
  where
    is_same : (n i : ℕ) → (n == i) ≡ true → n ≡ i
    is_same n i h = grind (arith, nat_tests)

    less : (n i : ℕ) → (n == i) ≡ false → i < suc n → i < n
    less n i h lt = grind (arith, nat_tests)

    le : (n i : ℕ) → n ≡ i → n ≤ i
    le n i h = omega arith

    plus : (x : ℕ) → x + 1 ≡ suc (x + 0)
    plus x = omega arith

    more : (x y z : ℕ) → y ≡ suc x → y + z ≡ suc (x + z)
    more x y z h = omega arith

    go : (d : Bool) → (n == i) ≡ d → (i < n → count_below g n ≡ suc (count_below f n)) → count_below g n + one_if (g n) ≡ suc (count_below f n + one_if (f n))
    go true h rest =
        let s = is_same n i h in
        ap₂ (λ x b. x + one_if b) (same_below f g i n (le n i s) e) (ap g s ∙ a)
        ∙ (plus (count_below f n) ∙ sym (ap (λ b. suc (count_below f n + one_if b)) (ap f s ∙ b)))
    go false h rest =
        more (count_below f n) (count_below g n) (one_if (g n)) (rest (less n i h lt))
        ∙ ap (λ b. suc (count_below f n + one_if b)) (e n h)
