-- What the heap keeps as timers are set and dropped, and what it shows.
use Rattle.std.proofs.Common.{◌≡◌, ℕ, zero, suc, ◌∙◌, ◌+◌, ◌-◌, ◌*◌, ◌/◌, ◌<◌, ◌≤◌, ap, sym, subst, refl, arith, length, List, [], ◌∷◌, ◌++◌, Bool, true, false, get_or}
use Rattle.std.specs.Prelude.{nat_eq, nat_lt, Option, None, Some, is_some, is_none, option_map, slice_get, MatchOption}
use Rattle.std.specs.List.{All, Contains, IsDistinct, AllByRecursion}
use Rattle.std.specs.List.Sorted.{IsPermutation}
use Rattle.std.specs.BinaryHeap.{IsHeap, KeepsHeap}
use Rattle.std.proofs.HeapSift as sifts
use Rattle.std.proofs.lemmas.Bool.Decides.{nat_tests}
use Rattle.std.proofs.lemmas.Cmp.{nat_eq_equiv}
use Rattle.std.proofs.lemmas.List.{get_or-map, length-map, length_push, get_or_default, map-append}
use Rattle.std.proofs.lemmas.List.Elements.{All-from_recursion, recursion_from_All, All-weaker, All-contains, All-contains_itself, Contains-push, All-cons, All-nil, All-push, All-map}
use Rattle.std.proofs.lemmas.List.Sorted.{length_permutation, IsPermutation-sym, IsPermutation-map, All-permutation, Contains-permutation}
use Rattle.std.proofs.lemmas.Map.Keys.{IsDistinct-cons, IsDistinct-IsPermutation, apart_from_distinct}
use Rattle.client_request.specs.declared.timers.Timer.{Timer}
use Rattle.client_request.specs.Numbered.{entry_at, frees, puts}
use Rattle.client_request.specs.Timers.{Entry, entry_of, numbers_of, goes_before, is_before, next_due, timer_at, IsSetOrCancelled, ParentsGoFirst}
use Rattle.client_request.specs.TimerHeap.{urgency_cmp, timer_of, timers_of, entry_of_pair, top_is_cancelled, DropsCancelled, IsHeapOf}
use Rattle.client_request.proofs.TimerOrder.{urgency_total, less-goes_before}
use Rattle.client_request.proofs.TimerTable.{frees-All, puts-last, entry_at-member, entry_at-Some, timer_at-Some, entry_at-push}
use Rattle.client_request.proofs.TimerTop.{next_due-first, tied}

-- ---- one entry of a number

same_place : (heap : List Entry) → IsDistinct nat_eq (numbers_of heap) → (i j : ℕ) (a b : Entry) → i < length heap → j < length heap → get_or heap i a ≡ a → get_or heap j b ≡ b → a.1.0 ≡ b.1.0 → i < j → ⊥
same_place heap once i j a b p q ia jb same less =
    let long : length (numbers_of heap) ≡ length heap = length-map heap (λ (e : Entry). e.1.0) in
    let apart = apart_from_distinct nat_eq (numbers_of heap) i j 0 once less (omega arith) in
    let left : get_or (numbers_of heap) i 0 ≡ a.1.0 = get_or-map (λ (e : Entry). e.1.0) heap i a 0 p ∙ ap (λ (e : Entry). e.1.0) ia in
    let right : get_or (numbers_of heap) j 0 ≡ b.1.0 = get_or-map (λ (e : Entry). e.1.0) heap j b 0 q ∙ ap (λ (e : Entry). e.1.0) jb in
    let equal : nat_eq (get_or (numbers_of heap) i 0) (get_or (numbers_of heap) j 0) ≡ true = let n : get_or (numbers_of heap) i 0 ≡ get_or (numbers_of heap) j 0 = left ∙ same ∙ sym right in grind (arith, nat_tests) in
    absurd (cc)

-- two entries of one number are one
pub one_entry : (heap : List Entry) → IsDistinct nat_eq (numbers_of heap) → (a b : Entry) → Contains heap a → Contains heap b → a.1.0 ≡ b.1.0 → a ≡ b
one_entry heap once a b (i, p, ia) (j, q, jb) same = by (nat_lt i j) (nat_lt j i) refl refl
  where
    by : (r s : Bool) → nat_lt i j ≡ r → nat_lt j i ≡ s → a ≡ b
    by true s e f = absurd (same_place heap once i j a b p q ia jb same (let k = e in grind (arith, nat_tests)))
    by false true e f = absurd (same_place heap once j i b a q p jb ia (sym same) (let k = f in grind (arith, nat_tests)))
    by false false e f =
        let at : i ≡ j = grind (arith, nat_tests) in
        sym ia ∙ get_or_default heap i a b p ∙ ap (λ (k : ℕ). get_or heap k b) at ∙ jb

-- ---- the top

top_first : (heap : List Entry) (h : Entry) (hs : List Entry) → heap ≡ h ∷ hs → IsHeap urgency_cmp heap → All (λ e. goes_before e h ≡ false) heap
top_first heap h hs is order =
    let first : h ≡ get_or heap 0 h = sym (ap (λ (l : List Entry). get_or l 0 h) is) in
    All-weaker _ (λ e. goes_before e h ≡ false) (λ e last. sym (less-goes_before e h) ∙ last) heap
    (All-from_recursion _ heap (sifts.greatest urgency_total heap h first order))

found_value : (o : Option ℕ) → is_none o ≡ false → (v : ℕ) × (o ≡ Some v)
found_value None e = absurd (cc)
found_value (Some v) e = (v, refl)

-- the top is a timer that is set
top_is_set : (next : ℕ) (table : List (ℕ × ℕ)) (h : Entry) (hs : List Entry) → IsHeapOf next table (h ∷ hs) → Contains table (h.1.0, h.0)
top_is_set next table h hs kept =
    let found = found_value (entry_at h.1.0 table) kept.top in
    let member = entry_at-Some table h.1.0 found.0 found.1 in
    let stands = All-contains (λ e. Contains (h ∷ hs) (entry_of_pair e)) table (h.1.0, found.0) kept.stands member in
    let same = one_entry (h ∷ hs) kept.once (found.0, h.1) h stands (0, omega arith, refl) refl in
    subst (λ (e : Entry). Contains table (e.1.0, e.0)) same member

listed : (table : List (ℕ × ℕ)) (e : ℕ × ℕ) → Contains table e → Contains (timers_of table) (timer_of e)
listed table e (k, within, is) = (k, (let long = length-map table timer_of in omega arith), get_or-map timer_of table k e (timer_of e) within ∙ ap timer_of is)

-- what the heap shows as the next is the timer that goes first
pub shows_next : (next : ℕ) (table : List (ℕ × ℕ)) (heap : List Entry) → IsHeapOf next table heap → slice_get heap 0 ≡ option_map entry_of (next_due (timers_of table))
shows_next next [] [] kept = refl
shows_next next (e ∷ es) [] kept = let none = kept.stands 0 e (omega arith) in absurd (let k = none.1 in omega arith)
shows_next next table (h ∷ hs) kept =
    let first = top_first (h ∷ hs) h hs refl kept.order in
    let before : All (λ e. is_before (timer_of e) (record { due = h.0; id = h.1.0 }) ≡ false) table = All-weaker (λ e. Contains (h ∷ hs) (entry_of_pair e)) (λ e. is_before (timer_of e) (record { due = h.0; id = h.1.0 }) ≡ false)
    (λ e m. All-contains (λ x. goes_before x h ≡ false) (h ∷ hs) (entry_of_pair e) first m) table kept.stands in
    sym (ap (option_map entry_of) (next_due-first (record { due = h.0; id = h.1.0 }) (timers_of table)
    (recursion_from_All _ (timers_of table) (All-map (λ u. is_before u (record { due = h.0; id = h.1.0 }) ≡ false) timer_of table before))
    (listed table (h.1.0, h.0) (top_is_set next table h hs kept))))

-- ---- what stands in the heap

-- each timer that is set stands there
pub shows_set : (next : ℕ) (table : List (ℕ × ℕ)) (heap : List Entry) → IsHeapOf next table heap → All (λ t. Contains heap (entry_of t)) (timers_of table)
shows_set next table heap kept = All-map (λ t. Contains heap (entry_of t)) timer_of table kept.stands

set_or_cancelled : (next : ℕ) (table : List (ℕ × ℕ)) (heap : List Entry) → IsHeapOf next table heap → (e : Entry) → Contains heap e → (o : Option Timer) → timer_at e.1.0 (timers_of table) ≡ o → MatchOption o (e.1.0 < next) (λ t. entry_of t ≡ e)
set_or_cancelled next table heap kept e member None found = All-contains (λ x. x.1.0 < next) heap e kept.drawn member
set_or_cancelled next table heap kept e member (Some t) found =
    let at = timer_at-Some table e.1.0 t found in
    let stands = All-contains (λ x. Contains heap (entry_of_pair x)) table (t.id, t.due) kept.stands at.0 in
    one_entry heap kept.once (entry_of t) e stands member at.1

-- what else stands there is cancelled
pub shows_rest : (next : ℕ) (table : List (ℕ × ℕ)) (heap : List Entry) → IsHeapOf next table heap → All (IsSetOrCancelled (record { next = next; set = timers_of table })) heap
shows_rest next table heap kept =
    All-weaker (Contains heap) (IsSetOrCancelled (record { next = next; set = timers_of table })) (λ e member. set_or_cancelled next table heap kept e member (timer_at e.1.0 (timers_of table)) refl) heap (All-contains_itself heap)

-- no entry goes before its parent
pub shows_parents : (heap : List Entry) → IsHeap urgency_cmp heap → ParentsGoFirst heap
unfolding IsHeap
shows_parents heap order = λ i d above within. sym (less-goes_before (get_or heap i d) (get_or heap ((i - 1) / 2) d)) ∙ order ((i - 1) / 2) i d (omega arith) (omega arith) (omega arith) within

-- at most as many as are set, and 16, are cancelled
pub shows_bound : (next : ℕ) (table : List (ℕ × ℕ)) (heap : List Entry) → IsHeapOf next table heap → length heap ≤ 2 * length (timers_of table) + 16
shows_bound next table heap kept = let long = length-map table timer_of in let short = kept.bound in omega arith

-- ---- setting a timer

below_more : (n : ℕ) (heap : List Entry) → All (λ e. e.1.0 < n) heap → All (λ e. e.1.0 < n + 1) heap
below_more n heap below = All-weaker (λ e. e.1.0 < n) (λ e. e.1.0 < n + 1) (λ e h. omega arith) heap below

keys_below : (n : ℕ) (table : List (ℕ × ℕ)) (heap : List Entry) → IsHeapOf n table heap → AllByRecursion (λ e. e.0 < n) table
keys_below n table heap kept =
    recursion_from_All (λ e. e.0 < n) table (All-weaker (λ e. Contains heap (entry_of_pair e)) (λ e. e.0 < n) (λ e m. All-contains (λ x. x.1.0 < n) heap (entry_of_pair e) kept.drawn m) table kept.stands)

fresh : (n : ℕ) (heap : List Entry) → All (λ e. e.1.0 < n) heap → AllByRecursion (λ m. nat_eq n m ≡ false) (numbers_of heap)
fresh n heap below =
    recursion_from_All (λ m. nat_eq n m ≡ false) (numbers_of heap) (All-map (λ m. nat_eq n m ≡ false) (λ (e : Entry). e.1.0) heap (All-weaker (λ e. e.1.0 < n) (λ e. nat_eq n e.1.0 ≡ false) (λ e h. grind (arith, nat_tests)) heap below))

-- the set timers in the order in which they were set
pub set_list : (n due : ℕ) (table : List (ℕ × ℕ)) (heap : List Entry) → IsHeapOf n table heap → timers_of (puts n due table) ≡ timers_of table ++ record { due = due; id = n } ∷ []
set_list n due table heap kept = ap timers_of (puts-last n due table (keys_below n table heap kept)) ∙ map-append timer_of table ((n, due) ∷ [])

some_from : (o : Option ℕ) → is_none o ≡ false → is_some o ≡ true
some_from None e = absurd (cc)
some_from (Some v) e = refl

not_none : (o : Option ℕ) → is_some o ≡ true → is_none o ≡ false
not_none None e = absurd (cc)
not_none (Some v) e = refl

-- The new top is the new timer, or the old top.
new_or_top : (n due : ℕ) (table : List (ℕ × ℕ)) (heap : List Entry) (y : Entry) (ys : List Entry) → IsHeapOf n table heap → IsPermutation ((due, record { 0 = n }) ∷ heap) (y ∷ ys) → IsHeap urgency_cmp (y ∷ ys) → Contains ((due, record { 0 = n }) ∷ heap) y → is_some (entry_at y.1.0 (table ++ (n, due) ∷ [])) ≡ true
new_or_top n due table heap y ys kept moves order (zero, within, is) =
    subst (λ (e : Entry). is_some (entry_at e.1.0 (table ++ (n, due) ∷ [])) ≡ true) is (entry_at-member (table ++ (n, due) ∷ []) (n, due) (Contains-push table (n, due)))
new_or_top n due table [] y ys kept moves order (suc k, within, is) = absurd (omega arith)
new_or_top n due table (t ∷ ts) y ys kept moves order (suc k, within, is) =
    let late = All-contains (λ e. goes_before e t ≡ false) (t ∷ ts) y (top_first (t ∷ ts) t ts refl kept.order) (k, omega arith, is) in
    let early = All-contains (λ e. goes_before e y ≡ false) (y ∷ ys) t (top_first (y ∷ ys) y ys refl order) (Contains-permutation ((due, record { 0 = n }) ∷ t ∷ ts) (y ∷ ys) t moves (1, omega arith, refl)) in
    let same = (tied t.0 t.1.0 y.0 y.1.0 early late).1 in
    subst (λ (id : ℕ). is_some (entry_at id (table ++ (n, due) ∷ [])) ≡ true) same (entry_at-push table t.1.0 (n, due) (some_from (entry_at t.1.0 table) kept.top))

new_top : (n due : ℕ) (table : List (ℕ × ℕ)) (heap new : List Entry) → IsHeapOf n table heap → IsPermutation ((due, record { 0 = n }) ∷ heap) new → IsHeap urgency_cmp new → top_is_cancelled (table ++ (n, due) ∷ []) new ≡ false
new_top n due table heap [] kept moves order = refl
new_top n due table heap (y ∷ ys) kept moves order =
    let member = Contains-permutation (y ∷ ys) ((due, record { 0 = n }) ∷ heap) y (IsPermutation-sym ((due, record { 0 = n }) ∷ heap) (y ∷ ys) moves) (0, omega arith, refl) in
    not_none (entry_at y.1.0 (table ++ (n, due) ∷ [])) (new_or_top n due table heap y ys kept moves order member)

member_later : (x : Entry) (heap : List Entry) (e : Entry) → Contains heap e → Contains (x ∷ heap) e
member_later x heap e (k, within, is) = (suc k, omega arith, is)

pub set_kept : (n due : ℕ) (table : List (ℕ × ℕ)) (heap new : List Entry) → IsHeapOf n table heap → KeepsHeap urgency_cmp heap new → IsPermutation ((due, record { 0 = n }) ∷ heap) new → IsHeapOf (n + 1) (puts n due table) new
set_kept n due table heap new kept keeps moves =
    let x : Entry = (due, record { 0 = n }) in
    let last = puts-last n due table (keys_below n table heap kept) in
    let order = keeps kept.order in
    subst (λ (t : List (ℕ × ℕ)). IsHeapOf (n + 1) t new) (sym last) (record {
      order = order;
      once = IsDistinct-IsPermutation nat_eq nat_eq_equiv.symm (numbers_of (x ∷ heap)) (numbers_of new) (IsPermutation-map (λ (e : Entry). e.1.0) (x ∷ heap) new moves) (IsDistinct-cons nat_eq n (numbers_of heap) (fresh n heap kept.drawn) kept.once);
      drawn = All-permutation (λ e. e.1.0 < n + 1) (x ∷ heap) new moves (All-cons (λ e. e.1.0 < n + 1) x heap (omega arith) (below_more n heap kept.drawn));
      stands = All-push (λ e. Contains new (entry_of_pair e)) table (n, due)
          (All-weaker (λ e. Contains heap (entry_of_pair e)) (λ e. Contains new (entry_of_pair e)) (λ e m. Contains-permutation (x ∷ heap) new (entry_of_pair e) moves (member_later x heap (entry_of_pair e) m)) table kept.stands)
          (Contains-permutation (x ∷ heap) new x moves (0, omega arith, refl));
      top = new_top n due table heap new kept moves order;
      bound = let long = length_permutation (x ∷ heap) new moves in let more = length_push table (n, due) in let short = kept.bound in omega arith;
    })

-- ---- dropping a timer

pub cancel_kept : (n id : ℕ) (table : List (ℕ × ℕ)) (heap new : List Entry) → IsHeapOf n table heap → DropsCancelled (frees id table) heap new → top_is_cancelled (frees id table) new ≡ false → length new ≤ 2 * length (frees id table) + 16 → IsHeapOf n (frees id table) new
cancel_kept n id table heap new kept drops top bound =
    let left = frees id table in
    let stood : All (λ e. Contains heap (entry_of_pair e)) left = All-from_recursion (λ e. Contains heap (entry_of_pair e)) left (frees-All (λ e. Contains heap (entry_of_pair e)) id table (recursion_from_All (λ e. Contains heap (entry_of_pair e)) table kept.stands)) in record {
      order = drops.order kept.order;
      once = drops.once kept.once;
      drawn = drops.drawn n kept.drawn;
      stands = All-weaker (Contains left) (λ e. Contains new (entry_of_pair e)) (λ e member. drops.stands (entry_of_pair e) (entry_at-member left e member) (All-contains (λ x. Contains heap (entry_of_pair x)) left e stood member)) left (All-contains_itself left);
      top = top;
      bound = bound;
    }

pub none_kept : (table : List (ℕ × ℕ)) (heap : List Entry) → table ≡ [] → heap ≡ [] → IsHeapOf 0 table heap
unfolding IsDistinct
none_kept [] [] e f = record {
  order = sifts.empty urgency_total [] refl;
  once = tt;
  drawn = All-nil (λ e. e.1.0 < 0);
  stands = All-nil (λ e. Contains [] (entry_of_pair e));
  top = refl;
  bound = omega arith;
}
none_kept (x ∷ xs) heap e f = absurd (cc)
none_kept [] (x ∷ xs) e f = absurd (cc)
