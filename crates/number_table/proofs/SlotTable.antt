-- What slots hold: at the slot of a key, at the gap for one, and once the empty ones are gone.
use Rattle.std.proofs.Common.{◌≡◌, ℕ, zero, suc, ◌+◌, ◌<◌, ◌≤◌, Bool, true, false, cond, List, [], ◌∷◌, length, get_or, set, Option, Some, None, Less, Equal, Greater, nat_cmp, ltb, is_eq, refl, sym, ap, subst, ◌∙◌, arith, le_trans, ◌-◌, Result, Ok, Err, IfOk, IfErr}
use Rattle.std.specs.List.Sorted.{IsSearchInRange, IsBinarySearchResult, IsNonDecreasingBy}
use Rattle.std.proofs.lemmas.Cmp.{ranked}
use Rattle.std.specs.Prelude.{is_some, is_none, slice_get, option_map}
use Rattle.std.specs.List.{insert, filter}
use Rattle.std.specs.Ordering.{match_ordering, ordering_index}
use Rattle.std.proofs.lemmas.Bool.Decides.{nat_tests}
use Rattle.number_table.specs.Entries.{puts, frees, entry_at}
use Rattle.number_table.specs.Slots.{with_entry, entries_in, Rising, HasKeyAt, IsGapFor, AreEmptyBefore, empty_at}
use Rattle.number_table.specs.declared.slots.Slot.{Slot}

less : (a b : ℕ) → a < b → nat_cmp a b ≡ Less
less a b lt = grind (arith, nat_tests)

greater : (a b : ℕ) → b < a → nat_cmp a b ≡ Greater
greater a b lt = grind (arith, nat_tests)

equal : (a b : ℕ) → b ≡ a → nat_cmp a b ≡ Equal
equal a b same = grind (arith, nat_tests)

over_suc : (a b : ℕ) → suc a ≤ b → suc a ≤ suc b
over_suc a b lt = omega arith

index_rises : (a b k : ℕ) → a ≤ b → ordering_index (nat_cmp a k) ≤ ordering_index (nat_cmp b k)
index_rises a b k le = grind (arith, nat_tests)

pub is_within : (n long : ℕ) (b : Bool) → b ≡ ltb n long → b ≡ true → n < long
is_within n long b is t = grind (arith, nat_tests)

pub is_past : (n long : ℕ) (b : Bool) → b ≡ ltb n long → b ≡ false → long ≤ n
is_past n long b is f = grind (arith, nat_tests)

-- how many entries a value makes
abbrev pub count : {V : Type 0} → Option V → ℕ
count None = 0
count (Some v) = 1

module _ {V : Type 0} where
  abbrev slot : ℕ → Option V → Slot V
  slot k o = record { key = k; value = o }

  -- ---- one slot before others

  length_with : (k : ℕ) (o : Option V) (es : List (ℕ × V)) → length (with_entry k o es) ≡ length es + count o
  length_with k None es = omega arith
  length_with k (Some w) es = omega arith

  put_behind : (k key : ℕ) (v : V) (o : Option V) (es es' : List (ℕ × V)) → k < key → puts key v es ≡ es' → puts key v (with_entry k o es) ≡ with_entry k o es'
  put_behind k key v None es es' lt e = e
  put_behind k key v (Some w) es es' lt e = ap (λ r. match_ordering r ((key, v) ∷ (k, w) ∷ es) ((k, v) ∷ es) ((k, w) ∷ puts key v es)) (greater key k lt) ∙ ap (λ (t : List (ℕ × V)). (k, w) ∷ t) e

  put_first : (k key : ℕ) (v : V) (o : Option V) (es : List (ℕ × V)) → k ≡ key → puts key v es ≡ (key, v) ∷ es → puts key v (with_entry k o es) ≡ (key, v) ∷ es
  put_first k key v None es same e = e
  put_first k key v (Some w) es same e = ap (λ r. match_ordering r ((key, v) ∷ (k, w) ∷ es) ((k, v) ∷ es) ((k, w) ∷ puts key v es)) (equal key k same) ∙ ap (λ (q : ℕ). (q, v) ∷ es) same

  put_before : (k key : ℕ) (v : V) (o : Option V) (es : List (ℕ × V)) → key < k → puts key v es ≡ (key, v) ∷ es → puts key v (with_entry k o es) ≡ (key, v) ∷ with_entry k o es
  put_before k key v None es lt e = e
  put_before k key v (Some w) es lt e = ap (λ r. match_ordering r ((key, v) ∷ (k, w) ∷ es) ((k, v) ∷ es) ((k, w) ∷ puts key v es)) (less key k lt)

  free_behind : (k key : ℕ) (o : Option V) (es es' : List (ℕ × V)) → k < key → frees key es ≡ es' → frees key (with_entry k o es) ≡ with_entry k o es'
  free_behind k key None es es' lt e = e
  free_behind k key (Some w) es es' lt e = ap (λ r. cond (is_eq r) es ((k, w) ∷ frees key es)) (greater key k lt) ∙ ap (λ (t : List (ℕ × V)). (k, w) ∷ t) e

  free_before : (k key : ℕ) (o : Option V) (es : List (ℕ × V)) → key < k → frees key es ≡ es → frees key (with_entry k o es) ≡ with_entry k o es
  free_before k key None es lt e = e
  free_before k key (Some w) es lt e = ap (λ r. cond (is_eq r) es ((k, w) ∷ frees key es)) (less key k lt) ∙ ap (λ (t : List (ℕ × V)). (k, w) ∷ t) e

  free_first : (k key : ℕ) (o : Option V) (es : List (ℕ × V)) → k ≡ key → frees key es ≡ es → frees key (with_entry k o es) ≡ es
  free_first k key None es same e = e
  free_first k key (Some w) es same e = ap (λ r. cond (is_eq r) es ((k, w) ∷ frees key es)) (equal key k same)

  entry_behind : (k key : ℕ) (o : Option V) (es : List (ℕ × V)) → k < key → entry_at key (with_entry k o es) ≡ entry_at key es
  entry_behind k key None es lt = refl
  entry_behind k key (Some w) es lt = ap (λ r. cond (is_eq r) (Some w) (entry_at key es)) (greater key k lt)

  entry_before : (k key : ℕ) (o : Option V) (es : List (ℕ × V)) → key < k → entry_at key (with_entry k o es) ≡ entry_at key es
  entry_before k key None es lt = refl
  entry_before k key (Some w) es lt = ap (λ r. cond (is_eq r) (Some w) (entry_at key es)) (less key k lt)

  entry_first : (k key : ℕ) (o : Option V) (es : List (ℕ × V)) → k ≡ key → entry_at key es ≡ None → entry_at key (with_entry k o es) ≡ o
  entry_first k key None es same e = e
  entry_first k key (Some w) es same e = ap (λ r. cond (is_eq r) (Some w) (entry_at key es)) (equal key k same)

  -- ---- slots with keys above one

  pub rises_from : (lo lo' : ℕ) (ss : List (Slot V)) → lo' ≤ lo → Rising lo ss → Rising lo' ss
  rises_from lo lo' [] le r = tt
  rises_from lo lo' (s ∷ ss) le r = (le_trans le r.0, r.1)

  above_put : (key : ℕ) (v : V) (ss : List (Slot V)) → Rising (suc key) ss → puts key v (entries_in ss) ≡ (key, v) ∷ entries_in ss
  above_put key v [] r = refl
  above_put key v (s ∷ ss) r = put_before s.key key v s.value (entries_in ss) r.0 (above_put key v ss (rises_from (suc s.key) (suc key) ss (over_suc key s.key r.0) r.1))

  above_free : (key : ℕ) (ss : List (Slot V)) → Rising (suc key) ss → frees key (entries_in ss) ≡ entries_in ss
  above_free key [] r = refl
  above_free key (s ∷ ss) r = free_before s.key key s.value (entries_in ss) r.0 (above_free key ss (rises_from (suc s.key) (suc key) ss (over_suc key s.key r.0) r.1))

  above_entry : (key : ℕ) (ss : List (Slot V)) → Rising (suc key) ss → entry_at key (entries_in ss) ≡ None
  above_entry key [] r = refl
  above_entry key (s ∷ ss) r = entry_before s.key key s.value (entries_in ss) r.0 ∙ above_entry key ss (rises_from (suc s.key) (suc key) ss (over_suc key s.key r.0) r.1)

  -- ---- the slot of a key

  pub key_from : (lo : ℕ) (ss : List (Slot V)) (i : ℕ) (d : Slot V) → Rising lo ss → i < length ss → lo ≤ (get_or ss i d).key
  key_from lo [] i d r lt = absurd (omega arith)
  key_from lo (s ∷ ss) zero d r lt = r.0
  key_from lo (s ∷ ss) (suc i) d r lt =
      let next = key_from (suc s.key) ss i d r.1 (omega arith) in
      let first = r.0 in
      omega arith

  pub keys_rise : (lo : ℕ) (ss : List (Slot V)) (i j : ℕ) (d : Slot V) → Rising lo ss → i ≤ j → j < length ss → (get_or ss i d).key ≤ (get_or ss j d).key
  keys_rise lo [] i j d r le lt = absurd (omega arith)
  keys_rise lo (s ∷ ss) zero zero d r le lt = omega arith
  keys_rise lo (s ∷ ss) zero (suc j) d r le lt = let next = key_from (suc s.key) ss j d r.1 (omega arith) in omega arith
  keys_rise lo (s ∷ ss) (suc i) zero d r le lt = absurd (omega arith)
  keys_rise lo (s ∷ ss) (suc i) (suc j) d r le lt = keys_rise (suc s.key) ss i j d r.1 (omega arith) (omega arith)

  below_next : (lo k key : ℕ) (ss : List (Slot V)) (at : ℕ) (d : Slot V) → Rising (suc k) ss → at < length ss → (get_or ss at d).key ≡ key → k < key
  below_next lo k key ss at d r lt same = let le = key_from (suc k) ss at d r lt in omega arith

  above_same : (k key : ℕ) (ss : List (Slot V)) → k ≡ key → Rising (suc k) ss → Rising (suc key) ss
  above_same k key ss same r = rises_from (suc k) (suc key) ss (omega arith) r

  pub entry_here : (lo key : ℕ) (ss : List (Slot V)) (at : ℕ) (d : Slot V) → Rising lo ss → at < length ss → (get_or ss at d).key ≡ key → entry_at key (entries_in ss) ≡ (get_or ss at d).value
  entry_here lo key [] at d r lt same = absurd (omega arith)
  entry_here lo key (s ∷ ss) zero d r lt same = entry_first s.key key s.value (entries_in ss) same (above_entry key ss (above_same s.key key ss same r.1))
  entry_here lo key (s ∷ ss) (suc at) d r lt same = entry_behind s.key key s.value (entries_in ss) (below_next lo s.key key ss at d r.1 (omega arith) same) ∙ entry_here (suc s.key) key ss at d r.1 (omega arith) same

  pub put_here : (lo key : ℕ) (v : V) (ss : List (Slot V)) (at : ℕ) (d : Slot V) → Rising lo ss → at < length ss → (get_or ss at d).key ≡ key → puts key v (entries_in ss) ≡ entries_in (set ss at (slot key (Some v)))
  put_here lo key v [] at d r lt same = absurd (omega arith)
  put_here lo key v (s ∷ ss) zero d r lt same = put_first s.key key v s.value (entries_in ss) same (above_put key v ss (above_same s.key key ss same r.1))
  put_here lo key v (s ∷ ss) (suc at) d r lt same = put_behind s.key key v s.value (entries_in ss) _ (below_next lo s.key key ss at d r.1 (omega arith) same) (put_here (suc s.key) key v ss at d r.1 (omega arith) same)

  pub free_here : (lo key : ℕ) (ss : List (Slot V)) (at : ℕ) (d : Slot V) → Rising lo ss → at < length ss → (get_or ss at d).key ≡ key → frees key (entries_in ss) ≡ entries_in (set ss at (slot key None))
  free_here lo key [] at d r lt same = absurd (omega arith)
  free_here lo key (s ∷ ss) zero d r lt same = free_first s.key key s.value (entries_in ss) same (above_free key ss (above_same s.key key ss same r.1))
  free_here lo key (s ∷ ss) (suc at) d r lt same = free_behind s.key key s.value (entries_in ss) _ (below_next lo s.key key ss at d r.1 (omega arith) same) (free_here (suc s.key) key ss at d r.1 (omega arith) same)

  pub rising_set : (lo key : ℕ) (o : Option V) (ss : List (Slot V)) (at : ℕ) (d : Slot V) → Rising lo ss → at < length ss → (get_or ss at d).key ≡ key → Rising lo (set ss at (slot key o))
  rising_set lo key o [] at d r lt same = absurd (omega arith)
  rising_set lo key o (s ∷ ss) zero d r lt same = (let le = r.0 in omega arith, above_same s.key key ss same r.1)
  rising_set lo key o (s ∷ ss) (suc at) d r lt same = (r.0, rising_set (suc s.key) key o ss at d r.1 (omega arith) same)

  pub count_set : (t : Slot V) (ss : List (Slot V)) (at : ℕ) (d : Slot V) → at < length ss → length (entries_in (set ss at t)) + count (get_or ss at d).value ≡ length (entries_in ss) + count t.value
  count_set t [] at d lt = absurd (omega arith)
  count_set t (s ∷ ss) zero d lt =
      let new = length_with t.key t.value (entries_in ss) in
      let old = length_with s.key s.value (entries_in ss) in
      omega arith
  count_set t (s ∷ ss) (suc at) d lt =
      let next = count_set t ss at d (omega arith) in
      let new = length_with s.key s.value (entries_in (set ss at t)) in
      let old = length_with s.key s.value (entries_in ss) in
      omega arith

  -- ---- the gap for a key

  -- the slots from the gap on have keys above it
  gap_first : (lo key : ℕ) (ss : List (Slot V)) → Rising lo ss → IsGapFor key ss 0 → Rising (suc key) ss
  gap_first lo key [] r gap = tt
  gap_first lo key (s ∷ ss) r gap = (gap.behind 0 s (omega arith) (omega arith), r.1)

  gap_next : (key : ℕ) (s : Slot V) (ss : List (Slot V)) (at : ℕ) → IsGapFor key (s ∷ ss) (suc at) → IsGapFor key ss at
  gap_next key s ss at gap = record {
    within = let le = gap.within in omega arith;
    before = λ i d lt. gap.before (suc i) d (omega arith);
    behind = λ i d le lt. gap.behind (suc i) d (omega arith) (omega arith);
  }

  gap_behind : (key : ℕ) (s : Slot V) (ss : List (Slot V)) (at : ℕ) → IsGapFor key (s ∷ ss) (suc at) → s.key < key
  gap_behind key s ss at gap = gap.before 0 s (omega arith)

  pub entry_in_gap : (lo key : ℕ) (ss : List (Slot V)) (at : ℕ) → Rising lo ss → IsGapFor key ss at → entry_at key (entries_in ss) ≡ None
  entry_in_gap lo key ss zero r gap = above_entry key ss (gap_first lo key ss r gap)
  entry_in_gap lo key [] (suc at) r gap = refl
  entry_in_gap lo key (s ∷ ss) (suc at) r gap = entry_behind s.key key s.value (entries_in ss) (gap_behind key s ss at gap) ∙ entry_in_gap (suc s.key) key ss at r.1 (gap_next key s ss at gap)

  pub free_in_gap : (lo key : ℕ) (ss : List (Slot V)) (at : ℕ) → Rising lo ss → IsGapFor key ss at → frees key (entries_in ss) ≡ entries_in ss
  free_in_gap lo key ss zero r gap = above_free key ss (gap_first lo key ss r gap)
  free_in_gap lo key [] (suc at) r gap = refl
  free_in_gap lo key (s ∷ ss) (suc at) r gap = free_behind s.key key s.value (entries_in ss) _ (gap_behind key s ss at gap) (free_in_gap (suc s.key) key ss at r.1 (gap_next key s ss at gap))

  pub put_in_gap : (lo key : ℕ) (v : V) (ss : List (Slot V)) (at : ℕ) → Rising lo ss → IsGapFor key ss at → puts key v (entries_in ss) ≡ entries_in (insert ss at (slot key (Some v)))
  put_in_gap lo key v ss zero r gap = above_put key v ss (gap_first lo key ss r gap)
  put_in_gap lo key v [] (suc at) r gap = let le = gap.within in absurd (omega arith)
  put_in_gap lo key v (s ∷ ss) (suc at) r gap = put_behind s.key key v s.value (entries_in ss) _ (gap_behind key s ss at gap) (put_in_gap (suc s.key) key v ss at r.1 (gap_next key s ss at gap))

  pub rising_insert : (lo key : ℕ) (o : Option V) (ss : List (Slot V)) (at : ℕ) → lo ≤ key → Rising lo ss → IsGapFor key ss at → Rising lo (insert ss at (slot key o))
  rising_insert lo key o ss zero le r gap = (le, gap_first lo key ss r gap)
  rising_insert lo key o [] (suc at) le r gap = let le = gap.within in absurd (omega arith)
  rising_insert lo key o (s ∷ ss) (suc at) le r gap = (r.0, rising_insert (suc s.key) key o ss at (gap_behind key s ss at gap) r.1 (gap_next key s ss at gap))

  pub count_insert : (t : Slot V) (ss : List (Slot V)) (at : ℕ) → length (entries_in (insert ss at t)) ≡ length (entries_in ss) + count t.value
  count_insert t ss zero = let new = length_with t.key t.value (entries_in ss) in omega arith
  count_insert t [] (suc at) = let new = length_with t.key t.value [] in omega arith
  count_insert t (s ∷ ss) (suc at) =
      let next = count_insert t ss at in
      let new = length_with s.key s.value (entries_in (insert ss at t)) in
      let old = length_with s.key s.value (entries_in ss) in
      omega arith

  pub no_more_entries : (ss : List (Slot V)) → length (entries_in ss) ≤ length ss
  no_more_entries [] = omega arith
  no_more_entries (s ∷ ss) =
      let next = no_more_entries ss in
      let new = length_with s.key s.value (entries_in ss) in
      let one = at_most_one s.value in
      omega arith
    where
      at_most_one : (o : Option V) → count o ≤ 1
      at_most_one None = omega arith
      at_most_one (Some v) = omega arith

  -- ---- without the empty slots

  abbrev pub is_full : Slot V → Bool
  is_full s = is_some s.value

  pub full_entries : (ss : List (Slot V)) → entries_in (filter is_full ss) ≡ entries_in ss
  full_entries [] = refl
  full_entries (s ∷ ss) = by s.value refl (full_entries ss)
    where
      by : (o : Option V) → s.value ≡ o → entries_in (filter is_full ss) ≡ entries_in ss → entries_in (cond (is_some s.value) (s ∷ filter is_full ss) (filter is_full ss)) ≡ with_entry s.key s.value (entries_in ss)
      by None e ih = ap (λ (p : Option V). entries_in (cond (is_some p) (s ∷ filter is_full ss) (filter is_full ss))) e ∙ ih ∙ ap (λ (p : Option V). with_entry s.key p (entries_in ss)) (sym e)
      by (Some v) e ih = ap (λ (p : Option V). entries_in (cond (is_some p) (s ∷ filter is_full ss) (filter is_full ss))) e ∙ ap (with_entry s.key s.value) ih

  pub rising_full : (lo : ℕ) (ss : List (Slot V)) → Rising lo ss → Rising lo (filter is_full ss)
  rising_full lo [] r = tt
  rising_full lo (s ∷ ss) r = by (is_full s) (rising_full (suc s.key) ss r.1)
    where
      by : (b : Bool) → Rising (suc s.key) (filter is_full ss) → Rising lo (cond b (s ∷ filter is_full ss) (filter is_full ss))
      by true rest = (r.0, rest)
      by false rest = rises_from (suc s.key) lo (filter is_full ss) (let le = r.0 in omega arith) rest

  -- ---- what a search finds

  get_or-slice_get : (ss : List (Slot V)) (i : ℕ) (d s : Slot V) → slice_get ss i ≡ Some s → get_or ss i d ≡ s
  get_or-slice_get [] i d s is = absurd (cc)
  get_or-slice_get (x ∷ ss) zero d s is = cc
  get_or-slice_get (x ∷ ss) (suc i) d s is = get_or-slice_get ss i d s is

  pub searched : (key : ℕ) (ss : List (Slot V)) → Rising 0 ss → (r : Result ℕ ℕ) → IsSearchInRange r (length ss) → IsBinarySearchResult (λ s. nat_cmp s.key key) ss r
      → record { found : IfOk r (HasKeyAt key ss); gap : IfErr r (IsGapFor key ss) }
  searched key ss rising (Ok at) within equal = record { found = record { within = within; same = λ d. ranked _ key _ (sym (equal d)) }; gap = tt }
  searched key ss rising (Err at) within parted =
      let rise : IsNonDecreasingBy (λ s. ordering_index (nat_cmp s.key key)) ss = λ i j d le lt. index_rises _ _ key (keys_rise 0 ss i j d rising le lt) in
      record {
        found = tt;
        gap = record {
          within = within;
          before = λ i d lt. ranked _ key _ (sym ((parted rise).0 i d (omega arith) lt));
          behind = λ i d le lt. ranked _ key _ (sym ((parted rise).1 i d le lt));
        };
      }

  pub gap_at_end : (key : ℕ) (ss : List (Slot V)) (last : Slot V) → Rising 0 ss → slice_get ss (length ss - 1) ≡ Some last → last.key < key → IsGapFor key ss (length ss)
  gap_at_end key ss last rising is below = record {
    within = omega arith;
    before = λ i d lt.
        let rise = keys_rise 0 ss i (length ss - 1) d rising (omega arith) (omega arith) in
        let at : get_or ss (length ss - 1) d ≡ last = get_or-slice_get ss (length ss - 1) d last is in
        let same : (get_or ss (length ss - 1) d).key ≡ last.key = ap (λ (s : Slot V). s.key) at in
        omega arith;
    behind = λ i d le lt. absurd (omega arith);
  }

  -- ---- the empty slots in front

  pub empty_less : (n m : ℕ) (ss : List (Slot V)) → n ≤ m → AreEmptyBefore m ss → AreEmptyBefore n ss
  empty_less zero m ss le p = tt
  empty_less (suc n) zero ss le p = absurd (omega arith)
  empty_less (suc n) (suc m) [] le p = tt
  empty_less (suc n) (suc m) (s ∷ ss) le p = (p.0, empty_less n m ss (omega arith) p.1)

  pub empty_set : (n : ℕ) (ss : List (Slot V)) (at : ℕ) (t : Slot V) → n ≤ at → AreEmptyBefore n ss → AreEmptyBefore n (set ss at t)
  empty_set zero ss at t le p = tt
  empty_set (suc n) [] at t le p = tt
  empty_set (suc n) (s ∷ ss) zero t le p = absurd (omega arith)
  empty_set (suc n) (s ∷ ss) (suc at) t le p = (p.0, empty_set n ss at t (omega arith) p.1)

  pub empty_taken : (n : ℕ) (ss : List (Slot V)) (at : ℕ) (t : Slot V) → t.value ≡ None → AreEmptyBefore n ss → AreEmptyBefore n (set ss at t)
  empty_taken zero ss at t none p = tt
  empty_taken (suc n) [] at t none p = tt
  empty_taken (suc n) (s ∷ ss) zero t none p = (none, p.1)
  empty_taken (suc n) (s ∷ ss) (suc at) t none p = (p.0, empty_taken n ss at t none p.1)

  pub empty_insert : (n : ℕ) (ss : List (Slot V)) (at : ℕ) (t : Slot V) → n ≤ at → at ≤ length ss → AreEmptyBefore n ss → AreEmptyBefore n (insert ss at t)
  empty_insert zero ss at t le within p = tt
  empty_insert (suc n) ss zero t le within p = absurd (omega arith)
  empty_insert (suc n) [] (suc at) t le within p = absurd (omega arith)
  empty_insert (suc n) (s ∷ ss) (suc at) t le within p = (p.0, empty_insert n ss at t (omega arith) (omega arith) p.1)

  is_empty : (o : Option V) → is_none o ≡ true → o ≡ None
  is_empty None e = refl
  is_empty (Some v) e = absurd (cc)

  empty_next : (n : ℕ) (ss : List (Slot V)) → empty_at n ss ≡ true → AreEmptyBefore n ss → AreEmptyBefore (suc n) ss
  empty_next n [] e p = tt
  empty_next zero (s ∷ ss) e p = (is_empty s.value e, tt)
  empty_next (suc n) (s ∷ ss) e p = (p.0, empty_next n ss e p.1)

  pub empty_more : (n : ℕ) (ss : List (Slot V)) → empty_at n ss ≡ true → AreEmptyBefore n ss → AreEmptyBefore (n + 1) ss
  empty_more n ss e p = subst (λ (m : ℕ). AreEmptyBefore m ss) {x = suc n} (omega arith) (empty_next n ss e p)

  pub empty_within : (n : ℕ) (ss : List (Slot V)) → empty_at n ss ≡ true → n < length ss
  empty_within n [] e = absurd (cc)
  empty_within zero (s ∷ ss) e = omega arith
  empty_within (suc n) (s ∷ ss) e = let lt = empty_within n ss e in omega arith

  first_key : (n : ℕ) (ss : List (Slot V)) → AreEmptyBefore n ss → empty_at n ss ≡ false → option_map (λ s. s.key) (slice_get ss n) ≡ option_map (λ e. e.0) (slice_get (entries_in ss) 0)
  first_key n [] p full = refl
  first_key zero (s ∷ ss) p full = by s.value full
    where
      by : (o : Option V) → is_none o ≡ false → Some s.key ≡ option_map (λ e. e.0) (slice_get (with_entry s.key o (entries_in ss)) 0)
      by None e = absurd (cc)
      by (Some v) e = refl
  first_key (suc n) (s ∷ ss) p full = first_key n ss p.1 full ∙ ap (λ (o : Option V). option_map (λ e. e.0) (slice_get (with_entry s.key o (entries_in ss)) 0)) (sym p.0)

  no_slot : (n : ℕ) (ss : List (Slot V)) → length ss ≤ n → slice_get ss n ≡ None
  no_slot n [] le = refl
  no_slot zero (s ∷ ss) le = absurd (omega arith)
  no_slot (suc n) (s ∷ ss) le = no_slot n ss (omega arith)

  slot_at : (n : ℕ) (ss : List (Slot V)) (x : Slot V) → n < length ss → x ≡ get_or ss n x → slice_get ss n ≡ Some x
  slot_at n [] x lt is = absurd (omega arith)
  slot_at zero (s ∷ ss) x lt is = ap Some (sym is)
  slot_at (suc n) (s ∷ ss) x lt is = slot_at n ss x (omega arith) is

  -- the first key, where a slot that is not empty follows empty ones
  pub no_key : (n : ℕ) (ss : List (Slot V)) → AreEmptyBefore n ss → empty_at n ss ≡ false → length ss ≤ n → None ≡ option_map (λ e. e.0) (slice_get (entries_in ss) 0)
  no_key n ss p full le = ap (option_map (λ (s : Slot V). s.key)) (sym (no_slot n ss le)) ∙ first_key n ss p full

  pub key_there : (n : ℕ) (ss : List (Slot V)) (x : Slot V) → AreEmptyBefore n ss → empty_at n ss ≡ false → n < length ss → x ≡ get_or ss n x → Some x.key ≡ option_map (λ e. e.0) (slice_get (entries_in ss) 0)
  key_there n ss x p full lt is = ap (option_map (λ (s : Slot V). s.key)) (sym (slot_at n ss x lt is)) ∙ first_key n ss p full
