-- The entry at a key that is put, and at each other.
use Rattle.std.proofs.Common.{◌≡◌, ℕ, cond, if◌then◌else◌, ◌==◌, List, [], ◌∷◌, Option, Some, None, Ordering, Less, Equal, Greater, nat_cmp, is_eq, refl, arith}
use Rattle.std.proofs.lemmas.Bool.Decides.{nat_tests}
use Rattle.std.specs.Ordering.{match_ordering}
use Rattle.right_trace.specs.Updates.{with_at}
use Rattle.number_table.specs.Entries.{puts, entry_at}

module _ {A : Type 0} where
  here_or_there : (q k x : ℕ) (y v : A) (o : Option A) → x ≡ k → cond (is_eq (nat_cmp q x)) (Some v) o ≡ with_at k (Some v) (λ j. cond (is_eq (nat_cmp j x)) (Some y) o) q
  here_or_there q k x y v o e = grind (arith, nat_tests)

  first_put : (q k : ℕ) (v : A) (o : Option A) → cond (is_eq (nat_cmp q k)) (Some v) o ≡ with_at k (Some v) (λ j. o) q
  first_put q k v o = grind (arith, nat_tests)

  behind : (q k x : ℕ) (y v : A) (o o' : Option A) → (k ≡ x → ⊥) → o' ≡ (if k == q then Some v else o)
      → cond (is_eq (nat_cmp q x)) (Some y) o' ≡ (if k == q then Some v else cond (is_eq (nat_cmp q x)) (Some y) o)
  behind q k x y v o o' ne e = grind (arith, nat_tests)

  -- the entry at a key that is put, and at each other
  pub at_puts : (k : ℕ) (v : A) (q : ℕ) (es : List (ℕ × A)) → entry_at q (puts k v es) ≡ with_at k (Some v) (λ j. entry_at j es) q
  at_puts k v q [] = first_put q k v None
  at_puts k v q (e ∷ es) = by (nat_cmp k e.0) refl (at_puts k v q es)
    where
      by : (r : Ordering) → nat_cmp k e.0 ≡ r → entry_at q (puts k v es) ≡ with_at k (Some v) (λ j. entry_at j es) q → entry_at q (match_ordering r ((k, v) ∷ e ∷ es) ((e.0, v) ∷ es) (e ∷ puts k v es)) ≡ with_at k (Some v) (λ j. entry_at j (e ∷ es)) q
      by Less h ih = first_put q k v (entry_at q (e ∷ es))
      by Equal h ih = here_or_there q k e.0 e.1 v (entry_at q es) (same k e.0 h)
        where
          same : (k x : ℕ) → nat_cmp k x ≡ Equal → x ≡ k
          same k x h = grind (arith, nat_tests)
      by Greater h ih = behind q k e.0 e.1 v (entry_at q es) (entry_at q (puts k v es)) (other k e.0 h) ih
        where
          other : (k x : ℕ) → nat_cmp k x ≡ Greater → k ≡ x → ⊥
          other k x h e = grind (arith, nat_tests)
