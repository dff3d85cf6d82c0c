-- The laws of a table that is sorted by its keys.
use Rattle.std.proofs.Common.{ap₂, subst, ◌≡◌, ℕ, suc, ◌<◌, ◌≤◌, Bool, true, false, cond, if◌then◌else◌, ◌==◌, List, [], ◌∷◌, length, Option, Some, None, Ordering, Less, Equal, Greater, nat_cmp, is_eq, ltb, refl, sym, ap, ◌∙◌, arith, le_trans, lt_of_lt_of_le}
use Rattle.std.proofs.lemmas.Bool.Decides.{nat_tests}
use Rattle.std.specs.Ordering.{match_ordering}
use mathlib.Core.Path.{fun_ext}
use Rattle.right_trace.specs.Updates.{with_at}
use Rattle.client_request.specs.Numbered.{puts, frees, entry_at}
use Rattle.proof_parts.specs.Lines.{Sorted}
use Rattle.proof_parts.specs.Sights.{Rising}

module _ {A : Type 0} (key : A → ℕ) where
  pub rises_from : (lo lo' hi : ℕ) (xs : List A) → lo' ≤ lo → Rising key lo hi xs → Rising key lo' hi xs
  rises_from lo lo' hi [] le r = tt
  rises_from lo lo' hi (x ∷ xs) le r = (le_trans le r.0, r.1, r.2)

  pub rises_below : (lo hi hi' : ℕ) (xs : List A) → hi ≤ hi' → Rising key lo hi xs → Rising key lo hi' xs
  rises_below lo hi hi' [] le r = tt
  rises_below lo hi hi' (x ∷ xs) le r = (r.0, lt_of_lt_of_le r.1 le, rises_below (suc (key x)) hi hi' xs le r.2)

is_here : (k x : ℕ) (b : Bool) → is_eq (nat_cmp k x) ≡ b → b ≡ true → k ≡ x
is_here k x b h t = grind (arith, nat_tests)

is_not_here : (k x : ℕ) (b : Bool) → is_eq (nat_cmp k x) ≡ b → b ≡ false → k ≡ x → ⊥
is_not_here k x b h t e = grind (arith, nat_tests)

module _ {A : Type 0} where
  pub absent_below : (lo hi q : ℕ) (es : List (ℕ × A)) → q < lo → Sorted lo hi es → entry_at q es ≡ None
  absent_below lo hi q [] lt r = refl
  absent_below lo hi q (e ∷ es) lt r = step e.0 e.1 (entry_at q es) (lt_of_lt_of_le lt r.0) (absent_below (suc e.0) hi q es (below e.0 r.0) r.2)
    where
      below : (x : ℕ) → lo ≤ x → q < suc x
      below x le = omega arith

      step : (x : ℕ) (y : A) (o : Option A) → q < x → o ≡ None → cond (is_eq (nat_cmp q x)) (Some y) o ≡ None
      step x y o lt e = grind (arith, nat_tests)

  pub absent_above : (lo hi q : ℕ) (es : List (ℕ × A)) → hi ≤ q → Sorted lo hi es → entry_at q es ≡ None
  absent_above lo hi q [] le r = refl
  absent_above lo hi q (e ∷ es) le r = step e.0 e.1 (entry_at q es) (lt_of_lt_of_le r.1 le) (absent_above (suc e.0) hi q es le r.2)
    where
      step : (x : ℕ) (y : A) (o : Option A) → x < q → o ≡ None → cond (is_eq (nat_cmp q x)) (Some y) o ≡ None
      step x y o lt e = grind (arith, nat_tests)

  here_or_there : (q k x : ℕ) (y v : A) (o : Option A) → x ≡ k → cond (is_eq (nat_cmp q x)) (Some v) o ≡ with_at k (Some v) (λ j. cond (is_eq (nat_cmp j x)) (Some y) o) q
  here_or_there q k x y v o e = grind (arith, nat_tests)

  first_put : (q k : ℕ) (v : A) (o : Option A) → cond (is_eq (nat_cmp q k)) (Some v) o ≡ with_at k (Some v) (λ j. o) q
  first_put q k v o = grind (arith, nat_tests)

  behind : (q k x : ℕ) (y v : A) (o o' : Option A) → (k ≡ x → ⊥) → o' ≡ (if k == q then Some v else o)
      → cond (is_eq (nat_cmp q x)) (Some y) o' ≡ (if k == q then Some v else cond (is_eq (nat_cmp q x)) (Some y) o)
  behind q k x y v o o' ne e = grind (arith, nat_tests)

  -- the entry at a key that is put, and at each other
  pub at_puts : (k : ℕ) (v : A) (q : ℕ) (es : List (ℕ × A)) → entry_at q (puts k v es) ≡ with_at k (Some v) (λ j. entry_at j es) q
  at_puts k v q [] = first_put q k v None
  at_puts k v q (e ∷ es) = by (nat_cmp k e.0) refl (at_puts k v q es)
    where
      by : (r : Ordering) → nat_cmp k e.0 ≡ r → entry_at q (puts k v es) ≡ with_at k (Some v) (λ j. entry_at j es) q → entry_at q (match_ordering r ((k, v) ∷ e ∷ es) ((e.0, v) ∷ es) (e ∷ puts k v es)) ≡ with_at k (Some v) (λ j. entry_at j (e ∷ es)) q
      by Less h ih = first_put q k v (entry_at q (e ∷ es))
      by Equal h ih = here_or_there q k e.0 e.1 v (entry_at q es) (same k e.0 h)
        where
          same : (k x : ℕ) → nat_cmp k x ≡ Equal → x ≡ k
          same k x h = grind (arith, nat_tests)
      by Greater h ih = behind q k e.0 e.1 v (entry_at q es) (entry_at q (puts k v es)) (other k e.0 h) ih
        where
          other : (k x : ℕ) → nat_cmp k x ≡ Greater → k ≡ x → ⊥
          other k x h e = grind (arith, nat_tests)

  freed_here : (q k x : ℕ) (y : A) (o : Option A) → k ≡ x → (q ≡ x → o ≡ None) → o ≡ (if k == q then None else cond (is_eq (nat_cmp q x)) (Some y) o)
  freed_here q k x y o e none = grind (arith, nat_tests)

  freed_behind : (q k x : ℕ) (y : A) (o o' : Option A) → (k ≡ x → ⊥) → o' ≡ (if k == q then None else o)
      → cond (is_eq (nat_cmp q x)) (Some y) o' ≡ (if k == q then None else cond (is_eq (nat_cmp q x)) (Some y) o)
  freed_behind q k x y o o' ne e = grind (arith, nat_tests)

  -- the entry at a key that is freed, and at each other
  pub at_frees : (k q lo hi : ℕ) (es : List (ℕ × A)) → Sorted lo hi es → entry_at q (frees k es) ≡ with_at k None (λ j. entry_at j es) q
  at_frees k q lo hi [] r = either (k == q) None
    where
      either : (b : Bool) (o : Option A) → o ≡ (if b then o else o)
      either true o = refl
      either false o = refl
  at_frees k q lo hi (e ∷ es) r = by (is_eq (nat_cmp k e.0)) refl (at_frees k q (suc e.0) hi es r.2)
    where
      by : (b : Bool) → is_eq (nat_cmp k e.0) ≡ b → entry_at q (frees k es) ≡ with_at k None (λ j. entry_at j es) q → entry_at q (cond b es (e ∷ frees k es)) ≡ with_at k None (λ j. entry_at j (e ∷ es)) q
      by true h ih = freed_here q k e.0 e.1 (entry_at q es) (is_here k e.0 true h refl) (λ same. absent_below (suc e.0) hi q es (below q e.0 same) r.2)
        where
          below : (q x : ℕ) → q ≡ x → q < suc x
          below q x same = omega arith
      by false h ih = freed_behind q k e.0 e.1 (entry_at q es) (entry_at q (frees k es)) (is_not_here k e.0 false h refl) ih

  pub sorted_puts : (k : ℕ) (v : A) (lo hi : ℕ) (es : List (ℕ × A)) → lo ≤ k → k < hi → Sorted lo hi es → Sorted lo hi (puts k v es)
  sorted_puts k v lo hi [] le lt r = (le, lt, tt)
  sorted_puts k v lo hi (e ∷ es) le lt r = by (nat_cmp k e.0) refl (λ above. sorted_puts k v (suc e.0) hi es above lt r.2)
    where
      below : (k x : ℕ) → nat_cmp k x ≡ Less → suc k ≤ x
      below k x h = grind (arith, nat_tests)

      above : (k x : ℕ) → nat_cmp k x ≡ Greater → suc x ≤ k
      above k x h = grind (arith, nat_tests)

      by : (o : Ordering) → nat_cmp k e.0 ≡ o → (suc e.0 ≤ k → Sorted (suc e.0) hi (puts k v es)) → Sorted lo hi (match_ordering o ((k, v) ∷ e ∷ es) ((e.0, v) ∷ es) (e ∷ puts k v es))
      by Less h ih = (le, lt, (below k e.0 h, r.1, r.2))
      by Equal h ih = r
      by Greater h ih = (r.0, r.1, ih (above k e.0 h))

  pub sorted_frees : (k : ℕ) (lo hi : ℕ) (es : List (ℕ × A)) → Sorted lo hi es → Sorted lo hi (frees k es)
  sorted_frees k lo hi [] r = tt
  sorted_frees k lo hi (e ∷ es) r = by (is_eq (nat_cmp k e.0)) (sorted_frees k (suc e.0) hi es r.2)
    where
      over : (lo x : ℕ) → lo ≤ x → lo ≤ suc x
      over lo x le = omega arith

      by : (b : Bool) → Sorted (suc e.0) hi (frees k es) → Sorted lo hi (cond b es (e ∷ frees k es))
      by true ih = rises_from (λ (e : ℕ × A). e.0) (suc e.0) lo hi es (over lo e.0 r.0) r.2
      by false ih = (r.0, r.1, ih)

  pub more_by_puts : (k : ℕ) (v : A) (es : List (ℕ × A)) → entry_at k es ≡ None → length (puts k v es) ≡ suc (length es)
  more_by_puts k v [] none = refl
  more_by_puts k v (e ∷ es) none = by (nat_cmp k e.0) refl (more_by_puts k v es)
    where
      absent : (k x : ℕ) (y : A) (o : Option A) → cond (is_eq (nat_cmp k x)) (Some y) o ≡ None → (nat_cmp k x ≡ Equal → ⊥) × (o ≡ None)
      absent k x y o e = (λ h. absurd (grind (arith, nat_tests)), grind (arith, nat_tests))

      by : (o : Ordering) → nat_cmp k e.0 ≡ o → (entry_at k es ≡ None → length (puts k v es) ≡ suc (length es)) → length (match_ordering o ((k, v) ∷ e ∷ es) ((e.0, v) ∷ es) (e ∷ puts k v es)) ≡ suc (suc (length es))
      by Less h ih = refl
      by Equal h ih = absurd ((absent k e.0 e.1 (entry_at k es) none).0 h)
      by Greater h ih = ap suc (ih (absent k e.0 e.1 (entry_at k es) none).1)

  pub fewer_by_frees : (k : ℕ) (v : A) (es : List (ℕ × A)) → entry_at k es ≡ Some v → suc (length (frees k es)) ≡ length es
  fewer_by_frees k v [] some = absurd (cc)
  fewer_by_frees k v (e ∷ es) some = by (is_eq (nat_cmp k e.0)) refl (fewer_by_frees k v es)
    where
      by : (b : Bool) → is_eq (nat_cmp k e.0) ≡ b → (entry_at k es ≡ Some v → suc (length (frees k es)) ≡ length es) → suc (length (cond b es (e ∷ frees k es))) ≡ suc (length es)
      by true h ih = refl
      by false h ih = ap suc (ih (sym (ap (λ b. cond b (Some e.1) (entry_at k es)) h) ∙ some))

  pub present_below : (k lo hi : ℕ) (v : A) (es : List (ℕ × A)) → Sorted lo hi es → entry_at k es ≡ Some v → k < hi
  present_below k lo hi v es r some = by (ltb k hi) refl
    where
      below : (b : Bool) → ltb k hi ≡ b → b ≡ true → k < hi
      below b e t = grind (arith, nat_tests)

      over : (b : Bool) → ltb k hi ≡ b → b ≡ false → hi ≤ k
      over b e t = grind (arith, nat_tests)

      no : None ≡ Some v → k < hi
      no e = absurd (cc)

      by : (b : Bool) → ltb k hi ≡ b → k < hi
      by true e = below true e refl
      by false e = no (sym (absent_above lo hi k es (over false e refl) r) ∙ some)

  -- the same of the functions
  pub puts_path : (k : ℕ) (v : A) (es : List (ℕ × A)) → (λ (j : ℕ). entry_at j (puts k v es)) ≡ with_at k (Some v) (λ j. entry_at j es)
  puts_path k v es = fun_ext (λ j. at_puts k v j es)

  pub frees_path : (k lo hi : ℕ) (es : List (ℕ × A)) → Sorted lo hi es → (λ (j : ℕ). entry_at j (frees k es)) ≡ with_at k None (λ j. entry_at j es)
  frees_path k lo hi es r = fun_ext (λ j. at_frees k j lo hi es r)

  -- a key that is not there is freed in vain
  pub frees_nothing : (k : ℕ) (es : List (ℕ × A)) → entry_at k es ≡ None → frees k es ≡ es
  frees_nothing k [] none = refl
  frees_nothing k (e ∷ es) none = by (is_eq (nat_cmp k e.0)) refl (frees_nothing k es)
    where
      by : (b : Bool) → is_eq (nat_cmp k e.0) ≡ b → (entry_at k es ≡ None → frees k es ≡ es) → cond b es (e ∷ frees k es) ≡ e ∷ es
      by true h ih = absurd (some (sym (ap (λ b. cond b (Some e.1) (entry_at k es)) h) ∙ none))
        where
          some : Some e.1 ≡ None → ⊥
          some e = cc
      by false h ih = ap (λ (xs : List (ℕ × A)). e ∷ xs) (ih (sym (ap (λ b. cond b (Some e.1) (entry_at k es)) h) ∙ none))

  first_here : (k : ℕ) (v : A) (hi : ℕ) (es : List (ℕ × A)) → Sorted (suc k) hi es → puts k v es ≡ (k, v) ∷ es
  first_here k v hi [] r = refl
  first_here k v hi (e ∷ es) r = ap (λ o. match_ordering o ((k, v) ∷ e ∷ es) ((e.0, v) ∷ es) (e ∷ puts k v es)) (less k e.0 r.0)
    where
      less : (k x : ℕ) → suc k ≤ x → nat_cmp k x ≡ Less
      less k x le = grind (arith, nat_tests)

  -- an entry that is taken out and put back
  pub put_back : (k : ℕ) (v : A) (lo hi : ℕ) (es : List (ℕ × A)) → Sorted lo hi es → entry_at k es ≡ Some v → puts k v (frees k es) ≡ es
  put_back k v lo hi [] r at = absurd (let z : None ≡ Some v = at in cc)
  put_back k v lo hi (e ∷ es) r at = by (is_eq (nat_cmp k e.0)) refl (put_back k v (suc e.0) hi es r.2)
    where
      here : (k x : ℕ) → is_eq (nat_cmp k x) ≡ true → k ≡ x
      here k x h = grind (arith, nat_tests)

      behind : (k x : ℕ) → is_eq (nat_cmp k x) ≡ false → (k < suc x → ⊥) → nat_cmp k x ≡ Greater
      behind k x h not_below = grind (arith, nat_tests)

      by : (b : Bool) → is_eq (nat_cmp k e.0) ≡ b → (entry_at k es ≡ Some v → puts k v (frees k es) ≡ es) → puts k v (cond b es (e ∷ frees k es)) ≡ e ∷ es
      by true h ih =
          let same : k ≡ e.0 = here k e.0 h in
          let value : e.1 ≡ v = (let z : Some e.1 ≡ Some v = sym (ap (λ b. cond b (Some e.1) (entry_at k es)) h) ∙ at in cc) in
          first_here k v hi es (subst (λ k. Sorted (suc k) hi es) (sym same) r.2) ∙ ap₂ (λ (k : ℕ) (v : A). (k, v) ∷ es) same (sym value)
      by false h ih =
          let there : entry_at k es ≡ Some v = sym (ap (λ b. cond b (Some e.1) (entry_at k es)) h) ∙ at in
          ap (λ o. match_ordering o ((k, v) ∷ e ∷ frees k es) ((e.0, v) ∷ frees k es) (e ∷ puts k v (frees k es))) (behind k e.0 h (λ lt. absurd (let z : None ≡ Some v = sym (absent_below (suc e.0) hi k es lt r.2) ∙ there in cc)))
          ∙ ap (λ (xs : List (ℕ × A)). e ∷ xs) (ih there)
