-- Tables by number, of whose entries each has a weight.
use Rattle.std.proofs.Common.{◌≡◌, ◌≢◌, ℕ, ◌+◌, ◌≤◌, List, [], ◌∷◌, Some, Ordering, Less, Equal, Greater, nat_cmp, cond, Bool, true, false, refl, sym, ap, ◌∙◌, arith}
use Rattle.std.specs.Prelude.{◌==◌}
use Rattle.std.specs.Ordering.{match_ordering, is_eq}
use Rattle.std.proofs.lemmas.Bool.Decides.{nat_tests}
use Rattle.number_table.specs.Entries.{puts, frees, entry_at}

pub same_number : (a b : ℕ) → (a == b) ≡ true → a ≡ b
same_number a b is = grind (arith, nat_tests)

pub is_same : (a b : ℕ) → a ≡ b → (a == b) ≡ true
is_same a b is = grind (arith, nat_tests)

pub is_other : (a b : ℕ) → a ≢ b → (a == b) ≡ false
is_other a b ne = grind (arith, nat_tests)

equal_keys : (j k : ℕ) → nat_cmp j k ≡ Equal → j ≡ k
equal_keys j k is = grind (arith, nat_tests)

is_equal : (r : Ordering) → is_eq r ≡ true → r ≡ Equal
is_equal Less is = absurd (cc)
is_equal Equal is = refl
is_equal Greater is = absurd (cc)

module _ {V : Type 0} (weight : ℕ × V → ℕ) where
  -- what all entries weigh
  abbrev pub weighs : List (ℕ × V) → ℕ
  weighs [] = 0
  weighs (e ∷ es) = weight e + weighs es

  pub put_weighs : (k : ℕ) (v : V) (es : List (ℕ × V)) → weighs (puts k v es) ≤ weighs es + weight (k, v)
  put_weighs k v [] = omega arith
  put_weighs k v (e ∷ es) = go (nat_cmp k e.0) refl (put_weighs k v es)
    where
      go : (r : Ordering) → nat_cmp k e.0 ≡ r → weighs (puts k v es) ≤ weighs es + weight (k, v) → weighs (match_ordering r ((k, v) ∷ e ∷ es) ((e.0, v) ∷ es) (e ∷ puts k v es)) ≤ weight e + weighs es + weight (k, v)
      go Less is ih = omega arith
      go Equal is ih = let same : weight (e.0, v) ≡ weight (k, v) = ap (λ (n : ℕ). weight (n, v)) (sym (equal_keys k e.0 is)) in omega arith
      go Greater is ih = omega arith

  pub free_weighs : (k : ℕ) (v : V) (es : List (ℕ × V)) → entry_at k es ≡ Some v → weighs (frees k es) + weight (k, v) ≡ weighs es
  free_weighs k v [] is = absurd (cc)
  free_weighs k v (e ∷ es) is = go (is_eq (nat_cmp k e.0)) refl is (free_weighs k v es)
    where
      some_same : (a b : V) → Some a ≡ Some b → a ≡ b
      some_same a b at = cc

      go : (b : Bool) → is_eq (nat_cmp k e.0) ≡ b → cond b (Some e.1) (entry_at k es) ≡ Some v → (entry_at k es ≡ Some v → weighs (frees k es) + weight (k, v) ≡ weighs es) → weighs (cond b es (e ∷ frees k es)) + weight (k, v) ≡ weight e + weighs es
      go true key at ih = (
          let number : k ≡ e.0 = equal_keys k e.0 (is_equal (nat_cmp k e.0) key) in
          let same : weight (k, v) ≡ weight e = ap (λ (n : ℕ). weight (n, v)) number ∙ ap (λ (w : V). weight (e.0, w)) (sym (some_same e.1 v at)) in
          omega arith)
      go false key at ih = let rest = ih at in omega arith

  pub free_least : (k : ℕ) (es : List (ℕ × V)) → weighs (frees k es) ≤ weighs es
  free_least k [] = omega arith
  free_least k (e ∷ es) = go (is_eq (nat_cmp k e.0)) (free_least k es)
    where
      go : (b : Bool) → weighs (frees k es) ≤ weighs es → weighs (cond b es (e ∷ frees k es)) ≤ weight e + weighs es
      go true ih = omega arith
      go false ih = omega arith

  -- another in the place of one
  pub again_weighs : (k : ℕ) (v w : V) (es : List (ℕ × V)) → entry_at k es ≡ Some v → weight (k, w) ≤ weight (k, v) → weighs (puts k w (frees k es)) ≤ weighs es
  again_weighs k v w es is le =
      let freed = free_weighs k v es is in
      let put = put_weighs k w (frees k es) in
      omega arith
