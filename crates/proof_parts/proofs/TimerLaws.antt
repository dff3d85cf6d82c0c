-- The laws of a list of timers, whose numbers rise.
use Rattle.std.proofs.Common.{◌≡◌, ℕ, suc, ◌+◌, ◌<◌, ◌≤◌, Bool, true, false, cond, not, ltb, if◌then◌else◌, ◌==◌, List, [], ◌∷◌, ◌++◌, length, Option, Some, None, refl, sym, ap, subst, ◌∙◌, arith, le_refl, lt_of_lt_of_le, one-add}
use Rattle.std.proofs.lemmas.Bool.Decides.{nat_tests}
use Rattle.std.specs.List.{position_or_len, remove}
use Rattle.client_request.specs.Timers.{removed_at, without_timer}
use Rattle.client_request.specs.declared.timers.Timer.{Timer}
use Rattle.right_trace.specs.Updates.{with_at}
use Rattle.proof_parts.specs.Sights.{due_of, Rising}
use Rattle.proof_parts.proofs.Tables.{rises_from}

-- the numbers of the timers rise
abbrev pub InOrder : (lo hi : ℕ) → List Timer → Type 0
InOrder lo hi ts = Rising (λ t. t.id) lo hi ts

-- Without a timer

removed_next : (t : Timer) (ts : List Timer) (m l : ℕ) → removed_at (t ∷ ts) (cond (ltb (1 + m) (suc l)) (Some (1 + m)) None) ≡ t ∷ removed_at ts (cond (ltb m l) (Some m) None)
removed_next t ts m l = ap (λ b. removed_at (t ∷ ts) (cond b (Some (1 + m)) None)) (same m l) ∙ by (ltb m l)
  where
    same : (m l : ℕ) → ltb (1 + m) (suc l) ≡ ltb m l
    same m l = grind (arith, nat_tests)

    by : (b : Bool) → removed_at (t ∷ ts) (cond b (Some (1 + m)) None) ≡ t ∷ removed_at ts (cond b (Some m) None)
    by true = ap (λ (n : ℕ). remove (t ∷ ts) n) (one-add m)
    by false = refl

removed_first : (t : Timer) (ts : List Timer) (l : ℕ) → removed_at (t ∷ ts) (cond (ltb 0 (suc l)) (Some 0) None) ≡ ts
removed_first t ts l = ap (λ b. removed_at (t ∷ ts) (cond b (Some 0) None)) (some l)
  where
    some : (l : ℕ) → ltb 0 (suc l) ≡ true
    some l = grind (arith, nat_tests)

pub without_cons : (id : ℕ) (t : Timer) (ts : List Timer) → without_timer id (t ∷ ts) ≡ (if t.id == id then ts else t ∷ without_timer id ts)
without_cons id t ts = by (t.id == id) (position_or_len (λ (t : Timer). t.id == id) ts) (length ts)
  where
    by : (b : Bool) (m l : ℕ)
        → removed_at (t ∷ ts) (cond (ltb (cond (not b) (1 + m) 0) (suc l)) (Some (cond (not b) (1 + m) 0)) None) ≡ (if b then ts else t ∷ removed_at ts (cond (ltb m l) (Some m) None))
    by true m l = removed_first t ts l
    by false m l = removed_next t ts m l

unset_below : (lo hi q : ℕ) (ts : List Timer) → q < lo → InOrder lo hi ts → due_of q ts ≡ None
unset_below lo hi q [] lt r = refl
unset_below lo hi q (t ∷ ts) lt r = step t.id t.due (due_of q ts) (lt_of_lt_of_le lt r.0) (unset_below (suc t.id) hi q ts (below t.id r.0) r.2)
  where
    below : (x : ℕ) → lo ≤ x → q < suc x
    below x le = omega arith

    step : (x y : ℕ) (o : Option ℕ) → q < x → o ≡ None → (if x == q then Some y else o) ≡ None
    step x y o lt e = grind (arith, nat_tests)

pub unset_above : (lo hi q : ℕ) (ts : List Timer) → hi ≤ q → InOrder lo hi ts → due_of q ts ≡ None
unset_above lo hi q [] le r = refl
unset_above lo hi q (t ∷ ts) le r = step t.id t.due (due_of q ts) (lt_of_lt_of_le r.1 le) (unset_above (suc t.id) hi q ts le r.2)
  where
    step : (x y : ℕ) (o : Option ℕ) → x < q → o ≡ None → (if x == q then Some y else o) ≡ None
    step x y o lt e = grind (arith, nat_tests)

gone_here : (q id x : ℕ) (y : ℕ) (o : Option ℕ) → x ≡ id → (q ≡ x → o ≡ None) → o ≡ (if id == q then None else (if x == q then Some y else o))
gone_here q id x y o e none = grind (arith, nat_tests)

gone_behind : (q id x : ℕ) (y : ℕ) (o o' : Option ℕ) → (x ≡ id → ⊥) → o' ≡ (if id == q then None else o)
    → (if x == q then Some y else o') ≡ (if id == q then None else (if x == q then Some y else o))
gone_behind q id x y o o' ne e = grind (arith, nat_tests)

tested : (x y : ℕ) → (x == y) ≡ true → x ≡ y
tested x y e = grind (arith, nat_tests)

untested : (x y : ℕ) → (x == y) ≡ false → x ≡ y → ⊥
untested x y e s = grind (arith, nat_tests)

pub due_without : (id q lo hi : ℕ) (ts : List Timer) → InOrder lo hi ts → due_of q (without_timer id ts) ≡ with_at id None (λ j. due_of j ts) q
due_without id q lo hi [] r = either (id == q) None
  where
    either : (b : Bool) (o : Option ℕ) → o ≡ (if b then o else o)
    either true o = refl
    either false o = refl
due_without id q lo hi (t ∷ ts) r = ap (due_of q) (without_cons id t ts) ∙ by (t.id == id) refl (due_without id q (suc t.id) hi ts r.2)
  where
    by : (b : Bool) → (t.id == id) ≡ b → due_of q (without_timer id ts) ≡ with_at id None (λ j. due_of j ts) q
        → due_of q (if b then ts else t ∷ without_timer id ts) ≡ with_at id None (λ j. due_of j (t ∷ ts)) q
    by true h ih = gone_here q id t.id t.due (due_of q ts) (tested t.id id h) (λ same. unset_below (suc t.id) hi q ts (below q t.id same) r.2)
      where
        below : (q x : ℕ) → q ≡ x → q < suc x
        below q x same = omega arith
    by false h ih = gone_behind q id t.id t.due (due_of q ts) (due_of q (without_timer id ts)) (untested t.id id h) ih

pub order_without : (id lo hi : ℕ) (ts : List Timer) → InOrder lo hi ts → InOrder lo hi (without_timer id ts)
order_without id lo hi [] r = tt
order_without id lo hi (t ∷ ts) r = subst (InOrder lo hi) (sym (without_cons id t ts)) (by (t.id == id) (order_without id (suc t.id) hi ts r.2))
  where
    over : (lo x : ℕ) → lo ≤ x → lo ≤ suc x
    over lo x le = omega arith

    by : (b : Bool) → InOrder (suc t.id) hi (without_timer id ts) → InOrder lo hi (if b then ts else t ∷ without_timer id ts)
    by true ih = rises_from (λ (t : Timer). t.id) (suc t.id) lo hi ts (over lo t.id r.0) r.2
    by false ih = (r.0, r.1, ih)

pub fewer_without : (id due : ℕ) (ts : List Timer) → due_of id ts ≡ Some due → suc (length (without_timer id ts)) ≡ length ts
fewer_without id due [] some = absurd (cc)
fewer_without id due (t ∷ ts) some = ap (λ (xs : List Timer). suc (length xs)) (without_cons id t ts) ∙ by (t.id == id) refl (fewer_without id due ts)
  where
    by : (b : Bool) → (t.id == id) ≡ b → (due_of id ts ≡ Some due → suc (length (without_timer id ts)) ≡ length ts)
        → suc (length (if b then ts else t ∷ without_timer id ts)) ≡ suc (length ts)
    by true h ih = refl
    by false h ih = ap suc (ih (sym (ap (λ b. if b then Some t.due else due_of id ts) h) ∙ some))

pub no_more_without : (id : ℕ) (ts : List Timer) → length (without_timer id ts) ≤ length ts
no_more_without id [] = le_refl 0
no_more_without id (t ∷ ts) = subst (λ xs. length xs ≤ suc (length ts)) (sym (without_cons id t ts)) (by (t.id == id) (no_more_without id ts))
  where
    by : (b : Bool) → length (without_timer id ts) ≤ length ts → length (if b then ts else t ∷ without_timer id ts) ≤ suc (length ts)
    by true ih = omega arith
    by false ih = omega arith

-- One timer more

pub due_set : (due q lo hi : ℕ) (ts : List Timer) → InOrder lo hi ts → due_of q (ts ++ record { due = due; id = hi } ∷ []) ≡ with_at hi (Some due) (λ j. due_of j ts) q
due_set due q lo hi [] r = refl
due_set due q lo hi (t ∷ ts) r = step t.id t.due (due_of q ts) (due_of q (ts ++ record { due = due; id = hi } ∷ [])) r.1 (due_set due q (suc t.id) hi ts r.2)
  where
    step : (x y : ℕ) (o o' : Option ℕ) → x < hi → o' ≡ (if hi == q then Some due else o) → (if x == q then Some y else o') ≡ (if hi == q then Some due else (if x == q then Some y else o))
    step x y o o' lt e = grind (arith, nat_tests)

pub order_set : (due lo hi : ℕ) (ts : List Timer) → lo ≤ hi → InOrder lo hi ts → InOrder lo (hi + 1) (ts ++ record { due = due; id = hi } ∷ [])
order_set due lo hi [] le r = (le, omega arith, tt)
order_set due lo hi (t ∷ ts) le r = (r.0, up t.id r.1, order_set due (suc t.id) hi ts r.1 r.2)
  where
    up : (x : ℕ) → x < hi → x < hi + 1
    up x lt = omega arith
