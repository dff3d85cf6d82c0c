-- The laws of a list of timers, whose numbers rise.
use Rattle.std.proofs.Common.{◌≡◌, ℕ, suc, ◌+◌, ◌<◌, ◌≤◌, ◌⊎◌, inl, inr, Bool, true, false, cond, not, ltb, if◌then◌else◌, ◌==◌, List, [], ◌∷◌, ◌++◌, length, Option, Some, None, refl, sym, ap, subst, ◌∙◌, leb, arith, le_trans, le_refl, lt_of_lt_of_le, one-add, ◌&&◌, ◌||◌}
use Rattle.std.proofs.lemmas.Bool.Decides.{nat_tests}
use Rattle.std.specs.List.{position_or_len, remove, fold}
use Rattle.client_request.specs.Timers.{is_before, earlier, removed_at, without_timer, if_due, due_now}
use Rattle.client_request.specs.declared.timers.Timer.{Timer}
use Rattle.right_trace.specs.Updates.{with_at}
use Rattle.client_steps.proofs.Tables.{Rising, rises_from}

-- when the timer of this number is due
abbrev pub due_of : (id : ℕ) → List Timer → Option ℕ
due_of id [] = None
due_of id (t ∷ ts) = if t.id == id then Some t.due else due_of id ts

-- the numbers of the timers rise
abbrev pub InOrder : (lo hi : ℕ) → List Timer → Type 0
InOrder lo hi ts = Rising (λ t. t.id) lo hi ts

-- Without a timer

removed_next : (t : Timer) (ts : List Timer) (m l : ℕ) → removed_at (t ∷ ts) (cond (ltb (1 + m) (suc l)) (Some (1 + m)) None) ≡ t ∷ removed_at ts (cond (ltb m l) (Some m) None)
removed_next t ts m l = ap (λ b. removed_at (t ∷ ts) (cond b (Some (1 + m)) None)) (same m l) ∙ by (ltb m l)
  where
    same : (m l : ℕ) → ltb (1 + m) (suc l) ≡ ltb m l
    same m l = grind (arith, nat_tests)

    by : (b : Bool) → removed_at (t ∷ ts) (cond b (Some (1 + m)) None) ≡ t ∷ removed_at ts (cond b (Some m) None)
    by true = ap (λ (n : ℕ). remove (t ∷ ts) n) (one-add m)
    by false = refl

removed_first : (t : Timer) (ts : List Timer) (l : ℕ) → removed_at (t ∷ ts) (cond (ltb 0 (suc l)) (Some 0) None) ≡ ts
removed_first t ts l = ap (λ b. removed_at (t ∷ ts) (cond b (Some 0) None)) (some l)
  where
    some : (l : ℕ) → ltb 0 (suc l) ≡ true
    some l = grind (arith, nat_tests)

pub without_cons : (id : ℕ) (t : Timer) (ts : List Timer) → without_timer id (t ∷ ts) ≡ (if t.id == id then ts else t ∷ without_timer id ts)
without_cons id t ts = by (t.id == id) (position_or_len (λ (t : Timer). t.id == id) ts) (length ts)
  where
    by : (b : Bool) (m l : ℕ)
        → removed_at (t ∷ ts) (cond (ltb (cond (not b) (1 + m) 0) (suc l)) (Some (cond (not b) (1 + m) 0)) None) ≡ (if b then ts else t ∷ removed_at ts (cond (ltb m l) (Some m) None))
    by true m l = removed_first t ts l
    by false m l = removed_next t ts m l

unset_below : (lo hi q : ℕ) (ts : List Timer) → q < lo → InOrder lo hi ts → due_of q ts ≡ None
unset_below lo hi q [] lt r = refl
unset_below lo hi q (t ∷ ts) lt r = step t.id t.due (due_of q ts) (lt_of_lt_of_le lt r.0) (unset_below (suc t.id) hi q ts (below t.id r.0) r.2)
  where
    below : (x : ℕ) → lo ≤ x → q < suc x
    below x le = omega arith

    step : (x y : ℕ) (o : Option ℕ) → q < x → o ≡ None → (if x == q then Some y else o) ≡ None
    step x y o lt e = grind (arith, nat_tests)

pub unset_above : (lo hi q : ℕ) (ts : List Timer) → hi ≤ q → InOrder lo hi ts → due_of q ts ≡ None
unset_above lo hi q [] le r = refl
unset_above lo hi q (t ∷ ts) le r = step t.id t.due (due_of q ts) (lt_of_lt_of_le r.1 le) (unset_above (suc t.id) hi q ts le r.2)
  where
    step : (x y : ℕ) (o : Option ℕ) → x < q → o ≡ None → (if x == q then Some y else o) ≡ None
    step x y o lt e = grind (arith, nat_tests)

gone_here : (q id x : ℕ) (y : ℕ) (o : Option ℕ) → x ≡ id → (q ≡ x → o ≡ None) → o ≡ (if id == q then None else (if x == q then Some y else o))
gone_here q id x y o e none = grind (arith, nat_tests)

gone_behind : (q id x : ℕ) (y : ℕ) (o o' : Option ℕ) → (x ≡ id → ⊥) → o' ≡ (if id == q then None else o)
    → (if x == q then Some y else o') ≡ (if id == q then None else (if x == q then Some y else o))
gone_behind q id x y o o' ne e = grind (arith, nat_tests)

tested : (x y : ℕ) → (x == y) ≡ true → x ≡ y
tested x y e = grind (arith, nat_tests)

untested : (x y : ℕ) → (x == y) ≡ false → x ≡ y → ⊥
untested x y e s = grind (arith, nat_tests)

pub due_without : (id q lo hi : ℕ) (ts : List Timer) → InOrder lo hi ts → due_of q (without_timer id ts) ≡ with_at id None (λ j. due_of j ts) q
due_without id q lo hi [] r = either (id == q) None
  where
    either : (b : Bool) (o : Option ℕ) → o ≡ (if b then o else o)
    either true o = refl
    either false o = refl
due_without id q lo hi (t ∷ ts) r = ap (due_of q) (without_cons id t ts) ∙ by (t.id == id) refl (due_without id q (suc t.id) hi ts r.2)
  where
    by : (b : Bool) → (t.id == id) ≡ b → due_of q (without_timer id ts) ≡ with_at id None (λ j. due_of j ts) q
        → due_of q (if b then ts else t ∷ without_timer id ts) ≡ with_at id None (λ j. due_of j (t ∷ ts)) q
    by true h ih = gone_here q id t.id t.due (due_of q ts) (tested t.id id h) (λ same. unset_below (suc t.id) hi q ts (below q t.id same) r.2)
      where
        below : (q x : ℕ) → q ≡ x → q < suc x
        below q x same = omega arith
    by false h ih = gone_behind q id t.id t.due (due_of q ts) (due_of q (without_timer id ts)) (untested t.id id h) ih

pub order_without : (id lo hi : ℕ) (ts : List Timer) → InOrder lo hi ts → InOrder lo hi (without_timer id ts)
order_without id lo hi [] r = tt
order_without id lo hi (t ∷ ts) r = subst (InOrder lo hi) (sym (without_cons id t ts)) (by (t.id == id) (order_without id (suc t.id) hi ts r.2))
  where
    over : (lo x : ℕ) → lo ≤ x → lo ≤ suc x
    over lo x le = omega arith

    by : (b : Bool) → InOrder (suc t.id) hi (without_timer id ts) → InOrder lo hi (if b then ts else t ∷ without_timer id ts)
    by true ih = rises_from (λ (t : Timer). t.id) (suc t.id) lo hi ts (over lo t.id r.0) r.2
    by false ih = (r.0, r.1, ih)

pub fewer_without : (id due : ℕ) (ts : List Timer) → due_of id ts ≡ Some due → suc (length (without_timer id ts)) ≡ length ts
fewer_without id due [] some = absurd (cc)
fewer_without id due (t ∷ ts) some = ap (λ (xs : List Timer). suc (length xs)) (without_cons id t ts) ∙ by (t.id == id) refl (fewer_without id due ts)
  where
    by : (b : Bool) → (t.id == id) ≡ b → (due_of id ts ≡ Some due → suc (length (without_timer id ts)) ≡ length ts)
        → suc (length (if b then ts else t ∷ without_timer id ts)) ≡ suc (length ts)
    by true h ih = refl
    by false h ih = ap suc (ih (sym (ap (λ b. if b then Some t.due else due_of id ts) h) ∙ some))

pub no_more_without : (id : ℕ) (ts : List Timer) → length (without_timer id ts) ≤ length ts
no_more_without id [] = le_refl 0
no_more_without id (t ∷ ts) = subst (λ xs. length xs ≤ suc (length ts)) (sym (without_cons id t ts)) (by (t.id == id) (no_more_without id ts))
  where
    by : (b : Bool) → length (without_timer id ts) ≤ length ts → length (if b then ts else t ∷ without_timer id ts) ≤ suc (length ts)
    by true ih = omega arith
    by false ih = omega arith

-- One timer more

pub due_set : (due q lo hi : ℕ) (ts : List Timer) → InOrder lo hi ts → due_of q (ts ++ record { due = due; id = hi } ∷ []) ≡ with_at hi (Some due) (λ j. due_of j ts) q
due_set due q lo hi [] r = refl
due_set due q lo hi (t ∷ ts) r = step t.id t.due (due_of q ts) (due_of q (ts ++ record { due = due; id = hi } ∷ [])) r.1 (due_set due q (suc t.id) hi ts r.2)
  where
    step : (x y : ℕ) (o o' : Option ℕ) → x < hi → o' ≡ (if hi == q then Some due else o) → (if x == q then Some y else o') ≡ (if hi == q then Some due else (if x == q then Some y else o))
    step x y o o' lt e = grind (arith, nat_tests)

pub order_set : (due lo hi : ℕ) (ts : List Timer) → lo ≤ hi → InOrder lo hi ts → InOrder lo (hi + 1) (ts ++ record { due = due; id = hi } ∷ [])
order_set due lo hi [] le r = (le, omega arith, tt)
order_set due lo hi (t ∷ ts) le r = (r.0, up t.id r.1, order_set due (suc t.id) hi ts r.1 r.2)
  where
    up : (x : ℕ) → x < hi → x < hi + 1
    up x lt = omega arith

-- The timer that goes first

abbrev pub Listed : Timer → List Timer → Type 0
Listed t [] = ⊥
Listed t (x ∷ xs) = (x ≡ t) ⊎ Listed t xs

listed_bounds : (t : Timer) (lo hi : ℕ) (ts : List Timer) → InOrder lo hi ts → Listed t ts → lo ≤ t.id
listed_bounds t lo hi [] r l = absurd l
listed_bounds t lo hi (x ∷ xs) r (inl e) = subst (λ (t : Timer). lo ≤ t.id) e r.0
listed_bounds t lo hi (x ∷ xs) r (inr l) = le_trans (over x.id r.0) (listed_bounds t (suc x.id) hi xs r.2 l)
  where
    over : (x : ℕ) → lo ≤ x → lo ≤ suc x
    over x le = omega arith

pub due_listed : (t : Timer) (lo hi : ℕ) (ts : List Timer) → InOrder lo hi ts → Listed t ts → due_of t.id ts ≡ Some t.due
due_listed t lo hi [] r l = absurd l
due_listed t lo hi (x ∷ xs) r (inl e) = subst (λ (t : Timer). due_of t.id (x ∷ xs) ≡ Some t.due) e (here x.id x.due (due_of x.id xs))
  where
    here : (x y : ℕ) (o : Option ℕ) → (if x == x then Some y else o) ≡ Some y
    here x y o = grind (arith, nat_tests)
due_listed t lo hi (x ∷ xs) r (inr l) = there x.id t.id x.due t.due (due_of t.id xs) (listed_bounds t (suc x.id) hi xs r.2 l) (due_listed t (suc x.id) hi xs r.2 l)
  where
    there : (x i y z : ℕ) (o : Option ℕ) → suc x ≤ i → o ≡ Some z → (if x == i then Some y else o) ≡ Some z
    there x i y z o lt e = grind (arith, nat_tests)

pub listed_due : (i due : ℕ) (ts : List Timer) → due_of i ts ≡ Some due → (t : Timer) × (Listed t ts) × (t.due ≡ due)
listed_due i due [] e = absurd (cc)
listed_due i due (x ∷ xs) e = by (x.id == i) refl (listed_due i due xs)
  where
    by : (b : Bool) → (x.id == i) ≡ b → (due_of i xs ≡ Some due → (t : Timer) × (Listed t xs) × (t.due ≡ due)) → (t : Timer) × (Listed t (x ∷ xs)) × (t.due ≡ due)
    by true h ih = let f : Some x.due ≡ Some due = sym (ap (λ b. if b then Some x.due else due_of i xs) h) ∙ e in (x, inl refl, cc)
    by false h ih = let y = ih (sym (ap (λ b. if b then Some x.due else due_of i xs) h) ∙ e) in (y.0, inr y.1, y.2)

-- no timer of these goes before t
pub record IsFirst (u : Timer) (ts : List Timer) (r : Option Timer) : Type 0 where
  pub first : Timer
  pub is_first : r ≡ Some first
  pub among : (u ≡ first) ⊎ Listed first ts
  pub before : first.due ≤ u.due
  pub least : (x : Timer) → Listed x ts → first.due ≤ x.due

first_of : (u : Timer) (ts : List Timer) → IsFirst u ts (fold earlier (Some u) ts)
first_of u [] = record { first = u; is_first = refl; among = inl refl; before = le_refl u.due; least = λ x l. absurd l }
first_of u (x ∷ xs) = by (is_before x u) refl (first_of x xs) (first_of u xs)
  where
    goes : (a b i j : ℕ) → (ltb a b || (a == b && ltb i j)) ≡ true → a ≤ b
    goes a b i j e = grind (arith, nat_tests)

    waits : (a b i j : ℕ) → (ltb a b || (a == b && ltb i j)) ≡ false → b ≤ a
    waits a b i j e = grind (arith, nat_tests)

    by : (b : Bool) → is_before x u ≡ b → IsFirst x xs (fold earlier (Some x) xs) → IsFirst u xs (fold earlier (Some u) xs) → IsFirst u (x ∷ xs) (fold earlier (if b then Some x else Some u) xs)
    by true h there here = record {
      first = there.first;
      is_first = there.is_first;
      among = inr there.among;
      before = le_trans there.before (goes x.due u.due x.id u.id h);
      least = λ y l. elim l [ inl e ↦ subst (λ (y : Timer). there.first.due ≤ y.due) e there.before | inr m ↦ there.least y m ];
    }
    by false h there here = record {
      first = here.first;
      is_first = here.is_first;
      among = elim here.among [ inl e ↦ inl e | inr m ↦ inr (inr m) ];
      before = here.before;
      least = λ y l. elim l [ inl e ↦ subst (λ (y : Timer). here.first.due ≤ y.due) e (le_trans here.before (waits x.due u.due x.id u.id h)) | inr m ↦ here.least y m ];
    }

-- a timer that fires is set, and due
pub fires_now : (now : ℕ) (ts : List Timer) (t : Timer) → due_now now ts ≡ Some t → Listed t ts × (t.due ≤ now)
fires_now now [] t e = absurd (cc)
fires_now now (x ∷ xs) t e = by (first_of x xs)
  where
    by : IsFirst x xs (fold earlier (Some x) xs) → Listed t (x ∷ xs) × (t.due ≤ now)
    by f = due (leb f.first.due now) refl
      where
        due : (b : Bool) → leb f.first.due now ≡ b → Listed t (x ∷ xs) × (t.due ≤ now)
        due true h =
            let g : Some f.first ≡ Some t = sym (ap (if_due now) f.is_first ∙ ap (λ b. if b then Some f.first else None) h) ∙ e in
            let s : f.first ≡ t = cc in
            subst (λ (t : Timer). Listed t (x ∷ xs) × (t.due ≤ now)) s (f.among, le f.first.due now h)
          where
            le : (a b : ℕ) → leb a b ≡ true → a ≤ b
            le a b e = grind (arith, nat_tests)
        due false h = absurd (none (sym (ap (if_due now) f.is_first ∙ ap (λ b. if b then Some f.first else None) h) ∙ e))
          where
            none : None ≡ Some t → ⊥
            none e = cc

-- where none fires, each is due later
pub rests_now : (now : ℕ) (ts : List Timer) → due_now now ts ≡ None → (x : Timer) → Listed x ts → now < x.due
rests_now now [] e x l = absurd l
rests_now now (y ∷ ys) e x l = by (first_of y ys)
  where
    by : IsFirst y ys (fold earlier (Some y) ys) → now < x.due
    by f = due (leb f.first.due now) refl
      where
        below : f.first.due ≤ x.due
        below = elim l [ inl e ↦ subst (λ (x : Timer). f.first.due ≤ x.due) e f.before | inr m ↦ f.least x m ]

        due : (b : Bool) → leb f.first.due now ≡ b → now < x.due
        due true h = absurd (some (sym (ap (if_due now) f.is_first ∙ ap (λ b. if b then Some f.first else None) h) ∙ e))
          where
            some : Some f.first ≡ None → ⊥
            some e = cc
        due false h = lt_of_lt_of_le (later f.first.due now h) below
          where
            later : (a b : ℕ) → leb a b ≡ false → b < a
            later a b e = grind (arith, nat_tests)
