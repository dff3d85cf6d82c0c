-- The table of timers that are set, and the list of them.
use Rattle.std.proofs.Common.{◌≡◌, ℕ, zero, suc, ◌∙◌, ◌+◌, ◌<◌, ◌≤◌, ap, sym, refl, arith, length, List, [], ◌∷◌, ◌++◌, Bool, true, false, cond}
use Rattle.std.specs.Prelude.{◌==◌, nat_eq, nat_lt, not, Option, None, Some, is_some, option_map}
use Rattle.std.specs.List.{Contains, position, prefix_len, IsDistinct, AllByRecursion}
use Rattle.std.specs.BTreeMap.{is_at}
use Rattle.std.specs.Ordering.{nat_cmp}
use Rattle.std.proofs.lemmas.Bool.{eqb-true}
use Rattle.std.proofs.lemmas.Bool.Decides.{nat_tests}
use Rattle.std.proofs.lemmas.Map.Keys.{IsDistinct-head, IsDistinct-tail}
use Rattle.client_request.specs.declared.timers.Timer.{Timer}
use Rattle.client_request.specs.Numbered.{entry_at, frees, puts}
use Rattle.client_request.specs.Timers.{without_timer, removed_at, timer_at}
use Rattle.client_request.specs.TimerHeap.{timer_of, timers_of}

is_at-number : (id k : ℕ) → is_at (nat_cmp id) k ≡ (k == id)
is_at-number id k = grind (arith, nat_tests)

-- ---- taking a timer out

position-head : (p : Timer → Bool) (t : Timer) (ts : List Timer) → p t ≡ true → position p (t ∷ ts) ≡ Some 0
position-head p t ts passes = grind (arith, nat_tests)

shifted : (q n : ℕ) → cond (nat_lt (1 + q) (suc n)) (Some (1 + q)) None ≡ option_map suc (cond (nat_lt q n) (Some q) None)
shifted q n = by (nat_lt q n) refl
  where
    by : (b : Bool) → nat_lt q n ≡ b → cond (nat_lt (1 + q) (suc n)) (Some (1 + q)) None ≡ option_map suc (cond (nat_lt q n) (Some q) None)
    by true e =
        let more : nat_lt (1 + q) (suc n) ≡ true = grind (arith, nat_tests) in
        let same : 1 + q ≡ suc q = omega arith in
        rw (e, more) (ap (λ (k : ℕ). Some k) same)
    by false e =
        let more : nat_lt (1 + q) (suc n) ≡ false = grind (arith, nat_tests) in
        rw (e, more)

position-tail : (p : Timer → Bool) (t : Timer) (ts : List Timer) → p t ≡ false → position p (t ∷ ts) ≡ option_map suc (position p ts)
position-tail p t ts fails = rw fails (shifted (prefix_len (λ u. not (p u)) ts) (length ts))

removed_at-suc : (t : Timer) (ts : List Timer) (o : Option ℕ) → removed_at (t ∷ ts) (option_map suc o) ≡ t ∷ removed_at ts o
removed_at-suc t ts None = refl
removed_at-suc t ts (Some i) = refl

without_timer-cons : (id : ℕ) (t : Timer) (ts : List Timer) (b : Bool) → (t.id == id) ≡ b → without_timer id (t ∷ ts) ≡ cond b ts (t ∷ without_timer id ts)
without_timer-cons id t ts true e = ap (removed_at (t ∷ ts)) (position-head (λ u. u.id == id) t ts e)
without_timer-cons id t ts false e = ap (removed_at (t ∷ ts)) (position-tail (λ u. u.id == id) t ts e) ∙ removed_at-suc t ts (position (λ u. u.id == id) ts)

timers_of-cond : (b : Bool) (e : ℕ × ℕ) (xs ys : List (ℕ × ℕ)) → timers_of (cond b xs (e ∷ ys)) ≡ cond b (timers_of xs) (timer_of e ∷ timers_of ys)
timers_of-cond true e xs ys = refl
timers_of-cond false e xs ys = refl

-- what is taken out of the table is taken out of the list
pub timers_of-frees : (id : ℕ) (table : List (ℕ × ℕ)) → timers_of (frees id table) ≡ without_timer id (timers_of table)
timers_of-frees id [] = refl
timers_of-frees id (e ∷ es) =
    timers_of-cond (is_at (nat_cmp id) e.0) e es (frees id es)
    ∙ ap (λ (b : Bool). cond b (timers_of es) (timer_of e ∷ timers_of (frees id es))) (is_at-number id e.0)
    ∙ ap (λ (ts : List Timer). cond (e.0 == id) (timers_of es) (timer_of e ∷ ts)) (timers_of-frees id es)
    ∙ sym (without_timer-cons id (timer_of e) (timers_of es) (e.0 == id) refl)

taken_or_kept : (P : ℕ × ℕ → Type 0) (b : Bool) (e : ℕ × ℕ) (es rest : List (ℕ × ℕ)) → AllByRecursion P es → P e → AllByRecursion P rest → AllByRecursion P (cond b es (e ∷ rest))
taken_or_kept P true e es rest all here kept = all
taken_or_kept P false e es rest all here kept = (here, kept)

pub frees-All : (P : ℕ × ℕ → Type 0) (id : ℕ) (table : List (ℕ × ℕ)) → AllByRecursion P table → AllByRecursion P (frees id table)
frees-All P id [] all = all
frees-All P id (e ∷ es) all = taken_or_kept P (is_at (nat_cmp id) e.0) e es (frees id es) all.1 all.0 (frees-All P id es all.1)

-- ---- setting a timer

-- a number above all of the table goes to its end
pub puts-last : (id due : ℕ) (table : List (ℕ × ℕ)) → AllByRecursion (λ e. e.0 < id) table → puts id due table ≡ table ++ (id, due) ∷ []
puts-last id due [] below = refl
puts-last id due (e ∷ es) below =
    let above : nat_lt id e.0 ≡ false = let lt : e.0 < id = below.0 in grind (arith, nat_tests) in
    let apart : (id == e.0) ≡ false = let lt : e.0 < id = below.0 in grind (arith, nat_tests) in
    rw (above, apart) (ap (λ (l : List (ℕ × ℕ)). e ∷ l) (puts-last id due es below.1))

-- ---- looking a number up

here_or_later : (b : Bool) (v : ℕ) (o : Option ℕ) → is_some o ≡ true → is_some (cond b (Some v) o) ≡ true
here_or_later true v o h = refl
here_or_later false v o h = h

-- each entry of the table is found by its number
pub entry_at-member : (table : List (ℕ × ℕ)) (e : ℕ × ℕ) → Contains table e → is_some (entry_at e.0 table) ≡ true
entry_at-member [] e (k, within, is) = absurd (omega arith)
entry_at-member (x ∷ xs) e (zero, within, is) =
    let same : is_at (nat_cmp e.0) x.0 ≡ true = is_at-number e.0 x.0 ∙ (let k : x.0 ≡ e.0 = ap (λ (y : ℕ × ℕ). y.0) is in grind (arith, nat_tests)) in
    rw same
entry_at-member (x ∷ xs) e (suc k, within, is) =
    here_or_later (is_at (nat_cmp e.0) x.0) x.1 (entry_at e.0 xs) (entry_at-member xs e (k, omega arith, is))

-- the entry is the first or one of the others
found_here : (b : Bool) (id due : ℕ) (x : ℕ × ℕ) (xs : List (ℕ × ℕ)) → (b ≡ true → x.0 ≡ id) → (entry_at id xs ≡ Some due → Contains xs (id, due)) → cond b (Some x.1) (entry_at id xs) ≡ Some due → Contains (x ∷ xs) (id, due)
found_here true id due x xs key later found =
    let same : x.1 ≡ due = cc in
    (0, omega arith, λ i. (key refl i, same i))
found_here false id due x xs key later found = let rest = later found in (suc rest.0, omega arith, rest.2)

-- what is found stands in the table
pub entry_at-Some : (table : List (ℕ × ℕ)) (id due : ℕ) → entry_at id table ≡ Some due → Contains table (id, due)
entry_at-Some [] id due found = absurd (cc)
entry_at-Some (x ∷ xs) id due found =
    found_here (is_at (nat_cmp id) x.0) id due x xs (λ e. eqb-true x.0 id (sym (is_at-number id x.0) ∙ e)) (entry_at-Some xs id due) found

timer_here : (b : Bool) (id : ℕ) (t : Timer) (x : ℕ × ℕ) (xs : List (ℕ × ℕ)) → (b ≡ true → x.0 ≡ id) → (timer_at id (timers_of xs) ≡ Some t → Contains xs (t.id, t.due) × (t.id ≡ id)) → cond b (Some (timer_of x)) (timer_at id (timers_of xs)) ≡ Some t → Contains (x ∷ xs) (t.id, t.due) × (t.id ≡ id)
timer_here true id t x xs key later found =
    let same : timer_of x ≡ t = cc in
    ((0, omega arith, λ i. ((same i).id, (same i).due)), ap (λ (u : Timer). u.id) (sym same) ∙ key refl)
timer_here false id t x xs key later found = let rest = later found in ((suc rest.0.0, omega arith, rest.0.2), rest.1)

-- a timer that is found by its number stands in the table
pub timer_at-Some : (table : List (ℕ × ℕ)) (id : ℕ) (t : Timer) → timer_at id (timers_of table) ≡ Some t → Contains table (t.id, t.due) × (t.id ≡ id)
timer_at-Some [] id t found = absurd (cc)
timer_at-Some (x ∷ xs) id t found = timer_here (x.0 == id) id t x xs (eqb-true x.0 id) (timer_at-Some xs id t) found

found_still : (b : Bool) (v : ℕ) (o p : Option ℕ) → (is_some o ≡ true → is_some p ≡ true) → is_some (cond b (Some v) o) ≡ true → is_some (cond b (Some v) p) ≡ true
found_still true v o p later found = refl
found_still false v o p later found = later found

-- a number stays found where another entry is added
pub entry_at-push : (table : List (ℕ × ℕ)) (id : ℕ) (e : ℕ × ℕ) → is_some (entry_at id table) ≡ true → is_some (entry_at id (table ++ e ∷ [])) ≡ true
entry_at-push [] id e found = absurd (cc)
entry_at-push (x ∷ xs) id e found =
    found_still (is_at (nat_cmp id) x.0) x.1 (entry_at id xs) (entry_at id (xs ++ e ∷ [])) (entry_at-push xs id e) found

-- ---- how many timers are set

gone_one : (b : Bool) (e : ℕ × ℕ) (es rest : List (ℕ × ℕ)) (o : Option ℕ) → is_some (cond b (Some e.1) o) ≡ true → (is_some o ≡ true → length rest + 1 ≡ length es) → length (cond b es (e ∷ rest)) + 1 ≡ length (e ∷ es)
gone_one true e es rest o found one = omega arith
gone_one false e es rest o found one = let fewer = one found in omega arith

frees-length : (id : ℕ) (table : List (ℕ × ℕ)) → is_some (entry_at id table) ≡ true → length (frees id table) + 1 ≡ length table
frees-length id [] found = absurd (cc)
frees-length id (e ∷ es) found = gone_one (is_at (nat_cmp id) e.0) e es (frees id es) (entry_at id es) found (frees-length id es)

-- b and d say whether the number that leaves and the one that stays are the key of e
found_without : (b d : Bool) (e : ℕ × ℕ) (es rest : List (ℕ × ℕ)) (stays : ℕ) → (b ≡ true → d ≡ false) → d ≡ is_at (nat_cmp stays) e.0 → (is_some (entry_at stays es) ≡ true → is_some (entry_at stays rest) ≡ true) → is_some (cond d (Some e.1) (entry_at stays es)) ≡ true → is_some (entry_at stays (cond b es (e ∷ rest))) ≡ true
found_without true true e es rest stays apart key later found = absurd (let no = apart refl in cc)
found_without true false e es rest stays apart key later found = found
found_without false true e es rest stays apart key later found = rw (sym key) refl
found_without false false e es rest stays apart key later found = rw (sym key) (later found)

-- a number stays found where another is taken out
frees-other : (id stays : ℕ) (table : List (ℕ × ℕ)) → nat_eq id stays ≡ false → is_some (entry_at stays table) ≡ true → is_some (entry_at stays (frees id table)) ≡ true
frees-other id stays [] apart found = found
frees-other id stays (e ∷ es) apart found =
    found_without (is_at (nat_cmp id) e.0) (is_at (nat_cmp stays) e.0) e es (frees id es) stays (λ same. grind (arith, nat_tests)) refl (frees-other id stays es apart) found

others_stay : (id : ℕ) (ns : List ℕ) (table : List (ℕ × ℕ)) → AllByRecursion (λ n. nat_eq id n ≡ false) ns → AllByRecursion (λ n. is_some (entry_at n table) ≡ true) ns → AllByRecursion (λ n. is_some (entry_at n (frees id table)) ≡ true) ns
others_stay id [] table apart found = tt
others_stay id (n ∷ ns) table apart found = (frees-other id n table apart.0 found.0, others_stay id ns table apart.1 found.1)

-- no more numbers than entries, where each number is that of an entry, and none stands twice
pub no_more : (ns : List ℕ) (table : List (ℕ × ℕ)) → IsDistinct nat_eq ns → AllByRecursion (λ n. is_some (entry_at n table) ≡ true) ns → length ns ≤ length table
no_more [] table once found = omega arith
no_more (n ∷ ns) table once found =
    let less = frees-length n table found.0 in
    let rest = no_more ns (frees n table) (IsDistinct-tail nat_eq n ns once) (others_stay n ns table (IsDistinct-head nat_eq n ns once) found.1) in
    omega arith
