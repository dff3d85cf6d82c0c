-- Functions of numbers with one entry changed.
use Rattle.std.proofs.Common.{◌≡◌, ℕ, ◌⊎◌, Bool, true, false, ◌==◌, Option, Some, None, refl, subst, arith}
use Rattle.std.proofs.lemmas.Bool.Decides.{nat_tests}
use Rattle.right_trace.specs.Updates.{with_at}

module _ {V : Type 0} where
  pub with_here : (k : ℕ) (v : Option V) (f : ℕ → Option V) → with_at k v f k ≡ v
  with_here k v f = grind (arith, nat_tests)

  pub with_there : (k : ℕ) (v : Option V) (f : ℕ → Option V) (j : ℕ) → (k ≡ j → ⊥) → with_at k v f j ≡ f j
  with_there k v f j ne = grind (arith, nat_tests)

  -- an entry that is there after one went was there before, elsewhere
  pub was_there : (k : ℕ) (f : ℕ → Option V) (j : ℕ) (b : V) → with_at k None f j ≡ Some b → (k ≡ j → ⊥) × (f j ≡ Some b)
  was_there k f j b e = grind (arith, nat_tests)

  -- it is what was put, or was there before, elsewhere
  pub is_or_was : (k : ℕ) (v : Option V) (f : ℕ → Option V) (j : ℕ) (b : V) → with_at k v f j ≡ Some b → ((k ≡ j) × (v ≡ Some b)) ⊎ ((k ≡ j → ⊥) × (f j ≡ Some b))
  is_or_was k v f j b e = grind (arith, nat_tests)

  pub with_again : (k : ℕ) (v w : Option V) (f : ℕ → Option V) (j : ℕ) → with_at k v (with_at k w f) j ≡ with_at k v f j
  with_again k v w f j = grind (arith, nat_tests)

  pub with_same : (k : ℕ) (v : Option V) (f : ℕ → Option V) (j : ℕ) → f k ≡ v → with_at k v f j ≡ f j
  with_same k v f j e = grind (arith, nat_tests)

-- what holds of a number and of each other one holds of each
pub each_number : (P : ℕ → Type 0) (k : ℕ) → P k → ((j : ℕ) → (k ≡ j → ⊥) → P j) → (j : ℕ) → P j
each_number P k here others j = by (k == j) refl
  where
    same : (b : Bool) → (k == j) ≡ b → b ≡ true → k ≡ j
    same b e t = grind (arith, nat_tests)

    other : (b : Bool) → (k == j) ≡ b → b ≡ false → k ≡ j → ⊥
    other b e f s = grind (arith, nat_tests)

    by : (b : Bool) → (k == j) ≡ b → P j
    by true e = subst P (same true e refl) here
    by false e = others j (other false e refl)
