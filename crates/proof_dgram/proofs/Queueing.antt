-- The laws of a queue of tickets, which rise.
use Rattle.std.proofs.Common.{◌≡◌, ℕ, suc, ◌+◌, ◌<◌, ◌≤◌, ◌⊎◌, inl, inr, Bool, true, false, cond, List, [], ◌∷◌, ◌++◌, Ordering, Less, Equal, Greater, nat_cmp, is_eq, refl, ap, subst, ◌∙◌, arith, le_trans}
use Rattle.std.proofs.lemmas.Bool.Decides.{nat_tests}
use Rattle.std.specs.Ordering.{match_ordering}
use Rattle.std.specs.BTreeMap.{is_at}
use Rattle.std.specs.BTreeSet.{insert_key}
use Rattle.std.specs.Set.{remove_key}
use Rattle.proof_parts.specs.Sights.{Rising}
use Rattle.proof_dgram.specs.Slots.{IsIn}
use Rattle.proof_parts.proofs.Tables.{rises_from}

abbrev pub Rises : (lo hi : ℕ) → List ℕ → Type 0
Rises lo hi q = Rising (λ t. t) lo hi q

pub in_from : (k lo hi : ℕ) (q : List ℕ) → Rises lo hi q → IsIn k q → lo ≤ k
in_from k lo hi [] r i = absurd i
in_from k lo hi (x ∷ xs) r (inl e) = subst (λ k. lo ≤ k) e r.0
in_from k lo hi (x ∷ xs) r (inr i) = le_trans (over x r.0) (in_from k (suc x) hi xs r.2 i)
  where
    over : (x : ℕ) → lo ≤ x → lo ≤ suc x
    over x le = omega arith

-- the next ticket goes last
pub goes_last : (lo k : ℕ) (q : List ℕ) → Rises lo k q → insert_key nat_cmp q k ≡ q ++ k ∷ []
goes_last lo k [] r = refl
goes_last lo k (x ∷ xs) r = by (nat_cmp k x) (greater k x r.1) (goes_last (suc x) k xs r.2)
  where
    greater : (k x : ℕ) → x < k → nat_cmp k x ≡ Greater
    greater k x lt = grind (arith, nat_tests)

    by : (o : Ordering) → o ≡ Greater → insert_key nat_cmp xs k ≡ xs ++ k ∷ [] → match_ordering o (k ∷ x ∷ xs) (x ∷ xs) (x ∷ insert_key nat_cmp xs k) ≡ x ∷ (xs ++ k ∷ [])
    by Less h ih = absurd (cc)
    by Equal h ih = absurd (cc)
    by Greater h ih = ap (λ (ys : List ℕ). x ∷ ys) ih

pub rises_last : (lo k : ℕ) (q : List ℕ) → lo ≤ k → Rises lo k q → Rises lo (k + 1) (q ++ k ∷ [])
rises_last lo k [] le r = (le, omega arith, tt)
rises_last lo k (x ∷ xs) le r = (r.0, up x r.1, rises_last (suc x) k xs r.1 r.2)
  where
    up : (x : ℕ) → x < k → x < k + 1
    up x lt = omega arith

pub in_last : (j k : ℕ) (q : List ℕ) → IsIn j (q ++ k ∷ []) → IsIn j q ⊎ (k ≡ j)
in_last j k [] (inl e) = inr e
in_last j k [] (inr i) = absurd i
in_last j k (x ∷ xs) (inl e) = inl (inl e)
in_last j k (x ∷ xs) (inr i) = elim (in_last j k xs i) [ inl i ↦ inl (inr i) | inr e ↦ inr e ]

pub still_in : (j k : ℕ) (q : List ℕ) → IsIn j q → IsIn j (q ++ k ∷ [])
still_in j k [] i = absurd i
still_in j k (x ∷ xs) (inl e) = inl e
still_in j k (x ∷ xs) (inr i) = inr (still_in j k xs i)

pub last_in : (k : ℕ) (q : List ℕ) → IsIn k (q ++ k ∷ [])
last_in k [] = inl refl
last_in k (x ∷ xs) = inr (last_in k xs)

-- A ticket is taken out.
pub rises_removed : (k lo hi : ℕ) (q : List ℕ) → Rises lo hi q → Rises lo hi (remove_key (is_at (nat_cmp k)) q)
rises_removed k lo hi [] r = tt
rises_removed k lo hi (x ∷ xs) r = by (is_eq (nat_cmp k x)) (rises_removed k (suc x) hi xs r.2)
  where
    over : (x : ℕ) → lo ≤ x → lo ≤ suc x
    over x le = omega arith

    by : (b : Bool) → Rises (suc x) hi (remove_key (is_at (nat_cmp k)) xs) → Rises lo hi (cond b xs (x ∷ remove_key (is_at (nat_cmp k)) xs))
    by true ih = rises_from (λ (k : ℕ). k) (suc x) lo hi xs (over x r.0) r.2
    by false ih = (r.0, r.1, ih)

pub was_in : (j k lo hi : ℕ) (q : List ℕ) → Rises lo hi q → IsIn j (remove_key (is_at (nat_cmp k)) q) → IsIn j q × (k ≡ j → ⊥)
was_in j k lo hi [] r i = absurd i
was_in j k lo hi (x ∷ xs) r i = by (is_eq (nat_cmp k x)) refl i (was_in j k (suc x) hi xs r.2)
  where
    same : (x k : ℕ) → is_eq (nat_cmp k x) ≡ true → suc x ≤ j → k ≡ j → ⊥
    same x k h lt e = grind (arith, nat_tests)

    other : (x k : ℕ) → is_eq (nat_cmp k x) ≡ false → x ≡ j → k ≡ j → ⊥
    other x k h s e = grind (arith, nat_tests)

    by : (b : Bool) → is_eq (nat_cmp k x) ≡ b → IsIn j (cond b xs (x ∷ remove_key (is_at (nat_cmp k)) xs)) → (IsIn j (remove_key (is_at (nat_cmp k)) xs) → IsIn j xs × (k ≡ j → ⊥)) → IsIn j (x ∷ xs) × (k ≡ j → ⊥)
    by true h i ih = (inr i, same x k h (in_from j (suc x) hi xs r.2 i))
    by false h (inl e) ih = (inl e, other x k h e)
    by false h (inr i) ih = (inr (ih i).0, (ih i).1)

pub stays_in : (j k : ℕ) (q : List ℕ) → (k ≡ j → ⊥) → IsIn j q → IsIn j (remove_key (is_at (nat_cmp k)) q)
stays_in j k [] ne i = absurd i
stays_in j k (x ∷ xs) ne i = by (is_eq (nat_cmp k x)) refl i (stays_in j k xs ne)
  where
    same : (x k : ℕ) → is_eq (nat_cmp k x) ≡ true → k ≡ x
    same x k h = grind (arith, nat_tests)

    by : (b : Bool) → is_eq (nat_cmp k x) ≡ b → IsIn j (x ∷ xs) → (IsIn j xs → IsIn j (remove_key (is_at (nat_cmp k)) xs)) → IsIn j (cond b xs (x ∷ remove_key (is_at (nat_cmp k)) xs))
    by true h (inl e) ih = absurd (ne (same x k h ∙ e))
    by true h (inr i) ih = i
    by false h (inl e) ih = inl e
    by false h (inr i) ih = inr (ih i)
