-- Sets once a number joins or leaves one.
use Rattle.std.proofs.Common.{◌≡◌, ℕ, zero, suc, ◌+◌, ◌<◌, ◌≤◌, ◌==◌, ◌&&◌, ◌||◌, ◌⊎◌, inl, inr, not, cond, if◌then◌else◌, Bool, true, false, Option, Some, None, List, [], ◌∷◌, length, is_some, Ordering, Less, Equal, Greater, nat_cmp, is_eq, refl, sym, ap, ap₂, ◌∙◌, subst, arith}
use Rattle.std.specs.Ordering.{match_ordering}
use Rattle.std.specs.Prelude.{Result, Ok, Err, OnOk}
use Rattle.std.proofs.lemmas.Bool.Decides.{nat_tests}
use Rattle.number_table.specs.Entries.{puts, frees, entry_at}
use Rattle.right_trace.specs.Time.{count_below}
use Rattle.trace_tables.specs.sets.Sets.{Members, Sets, members_or_none, members, has, size, joins, leaves, some_of, count_of, Rise, AreSets, Holds, SetsGoOn}
use Rattle.trace_tables.proofs.lemmas.sets.Counting.{count_same, none_counted, one_more}

-- what holds once a call went well
pub on_ok : {A E : Type 0} {P Q : Type 0} (r : Result A E) → (P → Q) → OnOk r P → OnOk r Q
on_ok (Ok a) f p = f p
on_ok (Err e) f p = tt

-- the entry at a key that is put, and at each other; and at each other once one is taken out
module _ {A : Type 0} where
  first_put : (q k : ℕ) (v : A) (o : Option A) → cond (is_eq (nat_cmp q k)) (Some v) o ≡ (if k == q then Some v else o)
  first_put q k v o = grind (arith, nat_tests)

  in_place : (q k x : ℕ) (y v : A) (o : Option A) → x ≡ k → cond (is_eq (nat_cmp q x)) (Some v) o ≡ (if k == q then Some v else cond (is_eq (nat_cmp q x)) (Some y) o)
  in_place q k x y v o e = grind (arith, nat_tests)

  behind : (q k x : ℕ) (y v : A) (o o' : Option A) → (k ≡ x → ⊥) → o' ≡ (if k == q then Some v else o)
      → cond (is_eq (nat_cmp q x)) (Some y) o' ≡ (if k == q then Some v else cond (is_eq (nat_cmp q x)) (Some y) o)
  behind q k x y v o o' ne e = grind (arith, nat_tests)

  pub at_puts : (k : ℕ) (v : A) (q : ℕ) (es : List (ℕ × A)) → entry_at q (puts k v es) ≡ (if k == q then Some v else entry_at q es)
  at_puts k v q [] = first_put q k v None
  at_puts k v q (e ∷ es) = by (nat_cmp k e.0) refl (at_puts k v q es)
    where
      same : (k x : ℕ) → nat_cmp k x ≡ Equal → x ≡ k
      same k x h = grind (arith, nat_tests)

      other : (k x : ℕ) → nat_cmp k x ≡ Greater → k ≡ x → ⊥
      other k x h e = grind (arith, nat_tests)

      by : (r : Ordering) → nat_cmp k e.0 ≡ r → entry_at q (puts k v es) ≡ (if k == q then Some v else entry_at q es) → entry_at q (match_ordering r ((k, v) ∷ e ∷ es) ((e.0, v) ∷ es) (e ∷ puts k v es)) ≡ (if k == q then Some v else entry_at q (e ∷ es))
      by Less h ih = first_put q k v (entry_at q (e ∷ es))
      by Equal h ih = in_place q k e.0 e.1 v (entry_at q es) (same k e.0 h)
      by Greater h ih = behind q k e.0 e.1 v (entry_at q es) (entry_at q (puts k v es)) (other k e.0 h) ih

  pub stays : (q k : ℕ) (t : List (ℕ × A)) → (k == q) ≡ false → entry_at q (frees k t) ≡ entry_at q t
  stays q k [] e = refl
  stays q k (d ∷ t) e = go (is_eq (nat_cmp k d.0)) refl (stays q k t e)
    where
      other : (x : ℕ) → is_eq (nat_cmp k x) ≡ true → is_eq (nat_cmp q x) ≡ false
      other x i = grind (arith, nat_tests)

      go : (b : Bool) → is_eq (nat_cmp k d.0) ≡ b → entry_at q (frees k t) ≡ entry_at q t → entry_at q (cond b t (d ∷ frees k t)) ≡ cond (is_eq (nat_cmp q d.0)) (Some d.1) (entry_at q t)
      go true i rest = sym (ap (λ b. cond b (Some d.1) (entry_at q t)) (other d.0 i))
      go false i rest = ap (cond (is_eq (nat_cmp q d.0)) (Some d.1)) rest

-- numbers that rise
none_above : (q least : ℕ) (es : Members) → q < least → Rise least es → entry_at q es ≡ None
none_above q least [] lt r = refl
none_above q least (e ∷ es) lt r = ap₂ (λ b o. cond b (Some e.1) o) (other q least e.0 lt r.0) (none_above q (suc e.0) es (below q least e.0 lt r.0) r.1)
  where
    other : (q least x : ℕ) → q < least → least ≤ x → is_eq (nat_cmp q x) ≡ false
    other q least x lt le = grind (arith, nat_tests)

    below : (q least x : ℕ) → q < least → least ≤ x → q < suc x
    below q least x lt le = omega arith

from_less : (a b : ℕ) (es : Members) → a ≤ b → Rise b es → Rise a es
from_less a b [] le r = tt
from_less a b (e ∷ es) le r = (trans a b e.0 le r.0, r.1)
  where
    trans : (a b x : ℕ) → a ≤ b → b ≤ x → a ≤ x
    trans a b x le more = omega arith

pub rise_puts : (least k : ℕ) (es : Members) → least ≤ k → Rise least es → Rise least (puts k tt es)
rise_puts least k [] le r = (le, tt)
rise_puts least k (e ∷ es) le r = by (nat_cmp k e.0) refl (λ le. rise_puts (suc e.0) k es le r.1)
  where
    less : (k x : ℕ) → nat_cmp k x ≡ Less → suc k ≤ x
    less k x h = grind (arith, nat_tests)

    more : (k x : ℕ) → nat_cmp k x ≡ Greater → suc x ≤ k
    more k x h = grind (arith, nat_tests)

    by : (o : Ordering) → nat_cmp k e.0 ≡ o → (suc e.0 ≤ k → Rise (suc e.0) (puts k tt es)) → Rise least (match_ordering o ((k, tt) ∷ e ∷ es) ((e.0, tt) ∷ es) (e ∷ puts k tt es))
    by Less h rest = (le, (less k e.0 h, r.1))
    by Equal h rest = (r.0, r.1)
    by Greater h rest = (r.0, rest (more k e.0 h))

pub rise_frees : (least k : ℕ) (es : Members) → Rise least es → Rise least (frees k es)
rise_frees least k [] r = tt
rise_frees least k (e ∷ es) r = go (is_eq (nat_cmp k e.0)) (rise_frees (suc e.0) k es r.1)
  where
    le : (a x : ℕ) → a ≤ x → a ≤ suc x
    le a x h = omega arith

    go : (b : Bool) → Rise (suc e.0) (frees k es) → Rise least (cond b es (e ∷ frees k es))
    go true rest = from_less least (suc e.0) es (le least e.0 r.0) r.1
    go false rest = (r.0, rest)

pub freed_none : (least k : ℕ) (es : Members) → Rise least es → entry_at k (frees k es) ≡ None
freed_none least k [] r = refl
freed_none least k (e ∷ es) r = go (is_eq (nat_cmp k e.0)) refl (freed_none (suc e.0) k es r.1)
  where
    same : (k x : ℕ) → is_eq (nat_cmp k x) ≡ true → k < suc x
    same k x h = grind (arith, nat_tests)

    go : (b : Bool) → is_eq (nat_cmp k e.0) ≡ b → entry_at k (frees k es) ≡ None → entry_at k (cond b es (e ∷ frees k es)) ≡ None
    go true h rest = none_above k (suc e.0) es (same k e.0 h) r.1
    go false h rest = ap₂ (λ b o. cond b (Some e.1) o) h rest

-- the set of a key, and each other
pub members_put : (key k : ℕ) (es : Members) (t : Sets) → members k (puts key es (frees key t)) ≡ (if key == k then es else members k t)
members_put key k es t = ap members_or_none (at_puts key es k (frees key t)) ∙ go (key == k) refl
  where
    go : (b : Bool) → (key == k) ≡ b → members_or_none (if b then Some es else entry_at k (frees key t)) ≡ (if b then es else members k t)
    go true e = refl
    go false e = ap members_or_none (stays k key t e)

same_number : (a b : ℕ) → (a == b) ≡ true → a ≡ b
same_number a b e = grind (arith, nat_tests)

joined : (key n k m : ℕ) (t : Sets) → has k m (joins key n t) ≡ ((key == k && n == m) || has k m t)
joined key n k m t = ap (λ es. is_some (entry_at m es)) (members_put key k (puts n tt (members key t)) t) ∙ go (key == k) refl
  where
    one : (b : Bool) → is_some (if b then Some tt else entry_at m (members k t)) ≡ (b || has k m t)
    one true = refl
    one false = refl

    go : (b : Bool) → (key == k) ≡ b → is_some (entry_at m (if b then puts n tt (members key t) else members k t)) ≡ ((b && n == m) || has k m t)
    go true e = ap (λ (x : ℕ). is_some (entry_at m (puts n tt (members x t)))) (same_number key k e) ∙ (ap is_some (at_puts n tt m (members k t)) ∙ one (n == m))
    go false e = refl

left : (key n k m : ℕ) (t : Sets) → AreSets t → has k m (leaves key n t) ≡ (not (key == k && n == m) && has k m t)
left key n k m t are = ap (λ es. is_some (entry_at m es)) (members_put key k (frees n (members key t)) t) ∙ go (key == k) refl
  where
    one : (b : Bool) → (n == m) ≡ b → is_some (entry_at m (frees n (members k t))) ≡ (not b && has k m t)
    one true e = ap is_some (ap (λ (x : ℕ). entry_at x (frees n (members k t))) (sym (same_number n m e)) ∙ freed_none 0 n (members k t) (are.rise k))
    one false e = ap is_some (stays m n (members k t) e)

    go : (b : Bool) → (key == k) ≡ b → is_some (entry_at m (if b then frees n (members key t) else members k t)) ≡ (not (b && n == m) && has k m t)
    go true e = ap (λ (x : ℕ). is_some (entry_at m (frees n (members x t)))) (same_number key k e) ∙ one (n == m) refl
    go false e = refl

join_rise : (key n : ℕ) (t : Sets) → AreSets t → AreSets (joins key n t)
join_rise key n t are = record { rise = λ k. subst (Rise 0) (sym (members_put key k (puts n tt (members key t)) t)) (go k (key == k)) }
  where
    go : (k : ℕ) (b : Bool) → Rise 0 (if b then puts n tt (members key t) else members k t)
    go k true = rise_puts 0 n (members key t) (omega arith) (are.rise key)
    go k false = are.rise k

leave_rise : (key n : ℕ) (t : Sets) → AreSets t → AreSets (leaves key n t)
leave_rise key n t are = record { rise = λ k. subst (Rise 0) (sym (members_put key k (frees n (members key t)) t)) (go k (key == k)) }
  where
    go : (k : ℕ) (b : Bool) → Rise 0 (if b then frees n (members key t) else members k t)
    go k true = rise_frees 0 n (members key t) (are.rise key)
    go k false = are.rise k

-- how many there are
abbrev pub is_in : Members → ℕ → Bool
is_in es m = is_some (entry_at m es)

-- of a first one, and of the others
module _ (e : ℕ × Unit {0}) (es : Members) where
  in_first : is_in (e ∷ es) e.0 ≡ true
  in_first = ap (λ b. is_some (cond b (Some e.1) (entry_at e.0 es))) (equal e.0)
    where
      equal : (a : ℕ) → is_eq (nat_cmp a a) ≡ true
      equal a = grind (arith, nat_tests)

  in_more : (m : ℕ) → is_in es m ≡ true → is_in (e ∷ es) m ≡ true
  in_more m i = go (is_eq (nat_cmp m e.0))
    where
      go : (b : Bool) → is_some (cond b (Some e.1) (entry_at m es)) ≡ true
      go true = refl
      go false = i

  in_other : (m : ℕ) → (m == e.0) ≡ false → is_in (e ∷ es) m ≡ is_in es m
  in_other m h = ap (λ b. is_some (cond b (Some e.1) (entry_at m es))) (unequal m e.0 h)
    where
      unequal : (m a : ℕ) → (m == a) ≡ false → is_eq (nat_cmp m a) ≡ false
      unequal m a h = grind (arith, nat_tests)

  not_in_rest : Rise (suc e.0) es → is_in es e.0 ≡ false
  not_in_rest r = ap is_some (none_above e.0 (suc e.0) es (own e.0) r)
    where
      own : (a : ℕ) → a < suc a
      own a = omega arith

as_many : (least n : ℕ) (es : Members) → Rise least es → ((m : ℕ) → is_in es m ≡ true → m < n) → length es ≡ count_below (is_in es) n
as_many least n [] r below = sym (none_counted (is_in []) n (λ m. refl))
as_many least n (e ∷ es) r below =
    ap suc (as_many (suc e.0) n es r.1 (λ m i. below m (in_more e es m i)))
    ∙ sym (one_more (is_in es) (is_in (e ∷ es)) e.0 n (below e.0 (in_first e es)) (in_first e es) (not_in_rest e es r.1) (in_other e es))

counted : (key n : ℕ) (f : ℕ → Bool) (t : Sets) → AreSets t → Holds key n f t → size key t ≡ count_below f n
counted key n f t are is =
    as_many 0 n (members key t) (are.rise key) (λ m i. is.below m (sym (is.same m) ∙ i))
    ∙ count_same (is_in (members key t)) f n is.same

-- how many pass
neither : (a b c : Bool) → c ≡ false → (a && c) ≡ (b && c)
neither true true c e = refl
neither true false c e = e
neither false true c e = sym e
neither false false c e = refl

as_many_pass : (g : ℕ → Bool) (least n : ℕ) (es : Members) → Rise least es → ((m : ℕ) → is_in es m ≡ true → m < n) → count_of g es ≡ count_below (λ m. is_in es m && g m) n
as_many_pass g least n [] r below = sym (none_counted (λ m. is_in [] m && g m) n (λ m. refl))
as_many_pass g least n (e ∷ es) r below = go (g e.0) refl (as_many_pass g (suc e.0) n es r.1 (λ m i. below m (in_more e es m i)))
  where
    same : (m : ℕ) (b : Bool) → (m == e.0) ≡ b → g e.0 ≡ false → (is_in (e ∷ es) m && g m) ≡ (is_in es m && g m)
    same m true h i = neither (is_in (e ∷ es) m) (is_in es m) (g m) (ap g (same_number m e.0 h) ∙ i)
    same m false h i = ap (λ a. a && g m) (in_other e es m h)

    go : (b : Bool) → g e.0 ≡ b → count_of g es ≡ count_below (λ m. is_in es m && g m) n → (if b then suc (count_of g es) else count_of g es) ≡ count_below (λ m. is_in (e ∷ es) m && g m) n
    go true i rest =
        ap suc rest
        ∙ sym (one_more (λ m. is_in es m && g m) (λ m. is_in (e ∷ es) m && g m) e.0 n (below e.0 (in_first e es)) (ap₂ (λ a b. a && b) (in_first e es) i)
        (ap (λ a. a && g e.0) (not_in_rest e es r.1)) (λ m h. ap (λ a. a && g m) (in_other e es m h)))
    go false i rest = rest ∙ sym (count_same (λ m. is_in (e ∷ es) m && g m) (λ m. is_in es m && g m) n (λ m. same m (m == e.0) refl i))

passing : (key n : ℕ) (f g : ℕ → Bool) (t : Sets) → AreSets t → Holds key n f t → count_of g (members key t) ≡ count_below (λ m. f m && g m) n
passing key n f g t are is =
    as_many_pass g 0 n (members key t) (are.rise key) (λ m i. is.below m (sym (is.same m) ∙ i))
    ∙ count_same (λ m. is_in (members key t) m && g m) (λ m. f m && g m) n (λ m. ap (λ a. a && g m) (is.same m))

-- what a walk finds
pub found_in : (f : ℕ → Bool) (es : Members) → some_of f es ≡ true → (n : ℕ) × (is_in es n ≡ true) × (f n ≡ true)
found_in f [] e = absurd (cc)
found_in f (d ∷ es) e = go (f d.0) refl (found_in f es) e
  where
    equal : (a : ℕ) → is_eq (nat_cmp a a) ≡ true
    equal a = grind (arith, nat_tests)

    more : (n : ℕ) (b : Bool) → is_in es n ≡ true → is_some (cond b (Some d.1) (entry_at n es)) ≡ true
    more n true i = refl
    more n false i = i

    go : (b : Bool) → f d.0 ≡ b → (some_of f es ≡ true → (n : ℕ) × (is_in es n ≡ true) × (f n ≡ true)) → (b || some_of f es) ≡ true → (n : ℕ) × (is_in (d ∷ es) n ≡ true) × (f n ≡ true)
    go true i rest e = (d.0, ap (λ b. is_some (cond b (Some d.1) (entry_at d.0 es))) (equal d.0), i)
    go false i rest e = (let r = rest e in (r.0, more r.0 (is_eq (nat_cmp r.0 d.0)) r.1, r.2))

pub finds_in : (f : ℕ → Bool) (n : ℕ) (es : Members) → is_in es n ≡ true → f n ≡ true → some_of f es ≡ true
finds_in f n [] i g = absurd (cc)
finds_in f n (d ∷ es) i g = go (is_eq (nat_cmp n d.0)) refl i (λ i. finds_in f n es i g)
  where
    same : (x : ℕ) → is_eq (nat_cmp n x) ≡ true → n ≡ x
    same x h = grind (arith, nat_tests)

    first : (a b : Bool) → a ≡ true → (a || b) ≡ true
    first a b h = ap (λ a. a || b) h

    second : (a b : Bool) → b ≡ true → (a || b) ≡ true
    second true b h = refl
    second false b h = h

    go : (b : Bool) → is_eq (nat_cmp n d.0) ≡ b → is_some (cond b (Some d.1) (entry_at n es)) ≡ true → (is_in es n ≡ true → some_of f es ≡ true) → (f d.0 || some_of f es) ≡ true
    go true h i rest = first (f d.0) (some_of f es) (sym (ap f (same d.0 h)) ∙ g)
    go false h i rest = second (f d.0) (some_of f es) (rest i)

pub goes_on : SetsGoOn
goes_on = record {
  begins = record { rise = λ key. tt };
  join = join_rise;
  leave = leave_rise;
  joined = joined;
  left = left;
  counted = counted;
  passing = passing;
  found = λ key f t e. found_in f (members key t) e;
  finds = λ key n f t i g. finds_in f n (members key t) i g;
}
