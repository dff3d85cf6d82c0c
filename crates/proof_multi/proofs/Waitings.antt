-- Who waits for the place that opens: tickets that rise.
use Rattle.std.proofs.Common.{◌≡◌, ℕ, suc, ◌<◌, ◌≤◌, ◌⊎◌, inl, inr, Bool, true, false, cond, List, [], ◌∷◌, Ordering, Less, Equal, Greater, nat_cmp, is_eq, refl, subst, ◌∙◌, arith, le_trans}
use Rattle.std.proofs.lemmas.Bool.Decides.{nat_tests}
use Rattle.std.specs.Ordering.{match_ordering}
use Rattle.std.specs.BTreeMap.{is_at}
use Rattle.std.specs.BTreeSet.{insert_key}
use Rattle.std.specs.Set.{remove_key}
use Rattle.proof_parts.specs.Sights.{Rising}
use Rattle.proof_parts.proofs.Tables.{rises_from}
use Rattle.proof_multi.specs.Servers.{IsListed}

abbrev pub Rises : (lo hi : ℕ) → List ℕ → Type 0
Rises lo hi q = Rising (λ t. t) lo hi q

abbrev pub put : ℕ → List ℕ → List ℕ
put t xs = insert_key nat_cmp xs t

abbrev pub without : ℕ → List ℕ → List ℕ
without t xs = remove_key (is_at (nat_cmp t)) xs

-- one is put among them
pub listed_put : (t u : ℕ) (xs : List ℕ) → IsListed u (put t xs) → (t ≡ u) ⊎ IsListed u xs
listed_put t u [] (inl e) = inl e
listed_put t u [] (inr l) = inr l
listed_put t u (x ∷ xs) l = by (nat_cmp t x) l (listed_put t u xs)
  where
    by : (o : Ordering) → IsListed u (match_ordering o (t ∷ x ∷ xs) (x ∷ xs) (x ∷ put t xs)) → (IsListed u (put t xs) → (t ≡ u) ⊎ IsListed u xs) → (t ≡ u) ⊎ IsListed u (x ∷ xs)
    by Less (inl e) ih = inl e
    by Less (inr l) ih = inr l
    by Equal l ih = inr l
    by Greater (inl e) ih = inr (inl e)
    by Greater (inr l) ih = elim (ih l) [ inl e ↦ inl e | inr l ↦ inr (inr l) ]

pub put_listed : (t u : ℕ) (xs : List ℕ) → IsListed u xs → IsListed u (put t xs)
put_listed t u [] l = absurd l
put_listed t u (x ∷ xs) l = by (nat_cmp t x) l (put_listed t u xs)
  where
    by : (o : Ordering) → IsListed u (x ∷ xs) → (IsListed u xs → IsListed u (put t xs)) → IsListed u (match_ordering o (t ∷ x ∷ xs) (x ∷ xs) (x ∷ put t xs))
    by Less l ih = inr l
    by Equal l ih = l
    by Greater (inl e) ih = inl e
    by Greater (inr l) ih = inr (ih l)

pub put_here : (t : ℕ) (xs : List ℕ) → IsListed t (put t xs)
put_here t [] = inl refl
put_here t (x ∷ xs) = by (nat_cmp t x) refl (put_here t xs)
  where
    same : (t x : ℕ) → nat_cmp t x ≡ Equal → x ≡ t
    same t x h = grind (arith, nat_tests)

    by : (o : Ordering) → nat_cmp t x ≡ o → IsListed t (put t xs) → IsListed t (match_ordering o (t ∷ x ∷ xs) (x ∷ xs) (x ∷ put t xs))
    by Less h ih = inl refl
    by Equal h ih = inl (same t x h)
    by Greater h ih = inr ih

pub rises_put : (t lo hi : ℕ) (xs : List ℕ) → lo ≤ t → t < hi → Rises lo hi xs → Rises lo hi (put t xs)
rises_put t lo hi [] le lt r = (le, lt, tt)
rises_put t lo hi (x ∷ xs) le lt r = by (nat_cmp t x) refl (λ above. rises_put t (suc x) hi xs above lt r.2)
  where
    below : (t x : ℕ) → nat_cmp t x ≡ Less → suc t ≤ x
    below t x h = grind (arith, nat_tests)

    above : (t x : ℕ) → nat_cmp t x ≡ Greater → suc x ≤ t
    above t x h = grind (arith, nat_tests)

    by : (o : Ordering) → nat_cmp t x ≡ o → (suc x ≤ t → Rises (suc x) hi (put t xs)) → Rises lo hi (match_ordering o (t ∷ x ∷ xs) (x ∷ xs) (x ∷ put t xs))
    by Less h ih = (le, lt, (below t x h, r.1, r.2))
    by Equal h ih = r
    by Greater h ih = (r.0, r.1, ih (above t x h))

-- one is taken out
pub listed_from : (t lo hi : ℕ) (xs : List ℕ) → Rises lo hi xs → IsListed t xs → lo ≤ t
listed_from t lo hi [] r l = absurd l
listed_from t lo hi (x ∷ xs) r (inl e) = subst (λ t. lo ≤ t) e r.0
listed_from t lo hi (x ∷ xs) r (inr l) = le_trans (over x r.0) (listed_from t (suc x) hi xs r.2 l)
  where
    over : (x : ℕ) → lo ≤ x → lo ≤ suc x
    over x le = omega arith

pub listed_without : (t u lo hi : ℕ) (xs : List ℕ) → Rises lo hi xs → IsListed u (without t xs) → IsListed u xs × (t ≡ u → ⊥)
listed_without t u lo hi [] r l = absurd l
listed_without t u lo hi (x ∷ xs) r l = by (is_eq (nat_cmp t x)) refl l (listed_without t u (suc x) hi xs r.2)
  where
    above : (t x : ℕ) → is_eq (nat_cmp t x) ≡ true → suc x ≤ u → t ≡ u → ⊥
    above t x h le e = grind (arith, nat_tests)

    other : (t x : ℕ) → is_eq (nat_cmp t x) ≡ false → x ≡ u → t ≡ u → ⊥
    other t x h e f = grind (arith, nat_tests)

    by : (b : Bool) → is_eq (nat_cmp t x) ≡ b → IsListed u (cond b xs (x ∷ without t xs)) → (IsListed u (without t xs) → IsListed u xs × (t ≡ u → ⊥)) → IsListed u (x ∷ xs) × (t ≡ u → ⊥)
    by true h l ih = (inr l, above t x h (listed_from u (suc x) hi xs r.2 l))
    by false h (inl e) ih = (inl e, other t x h e)
    by false h (inr l) ih = (inr (ih l).0, (ih l).1)

pub without_listed : (t u : ℕ) (xs : List ℕ) → (t ≡ u → ⊥) → IsListed u xs → IsListed u (without t xs)
without_listed t u [] ne l = l
without_listed t u (x ∷ xs) ne l = by (is_eq (nat_cmp t x)) refl l (without_listed t u xs ne)
  where
    same : (t x : ℕ) → is_eq (nat_cmp t x) ≡ true → t ≡ x
    same t x h = grind (arith, nat_tests)

    by : (b : Bool) → is_eq (nat_cmp t x) ≡ b → (x ≡ u) ⊎ IsListed u xs → (IsListed u xs → IsListed u (without t xs)) → IsListed u (cond b xs (x ∷ without t xs))
    by true h (inl e) ih = absurd (ne (same t x h ∙ e))
    by true h (inr l) ih = l
    by false h (inl e) ih = inl e
    by false h (inr l) ih = inr (ih l)

pub rises_without : (t lo hi : ℕ) (xs : List ℕ) → Rises lo hi xs → Rises lo hi (without t xs)
rises_without t lo hi [] r = tt
rises_without t lo hi (x ∷ xs) r = by (is_eq (nat_cmp t x)) (rises_without t (suc x) hi xs r.2)
  where
    over : (x : ℕ) → lo ≤ x → lo ≤ suc x
    over x le = omega arith

    by : (b : Bool) → Rises (suc x) hi (without t xs) → Rises lo hi (cond b xs (x ∷ without t xs))
    by true ih = rises_from (λ (t : ℕ). t) (suc x) lo hi xs (over x r.0) r.2
    by false ih = (r.0, r.1, ih)
