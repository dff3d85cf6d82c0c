-- What pushing and popping keep of the heap of timers.
use Rattle.std.proofs.Common.{◌≡◌, ℕ, zero, suc, ◌∙◌, ◌+◌, ◌<◌, ◌≤◌, ap, sym, subst, arith, length, List, [], ◌∷◌, ◌++◌, take, drop, Bool, true, false, cond, get_or}
use Rattle.std.specs.Prelude.{if◌then◌else◌, nat_eq, Option, None, Some, IsSome, is_some, is_none}
use Rattle.std.specs.List.{swap_remove, All, Contains, IsDistinct, AllByRecursion, filter}
use Rattle.std.specs.List.Sorted.{IsPermutation}
use Rattle.std.specs.BinaryHeap.{IsHeap, KeepsHeap}
use Rattle.std.specs.BinaryHeap.Sift.{SiftsUp, SiftsDown, RestoresHeap}
use Rattle.std.proofs.HeapSift as sifts
use Rattle.std.proofs.Permutation.{same, under, taken_at, back, to_front}
use Rattle.std.proofs.SliceLists.{again}
use Rattle.std.proofs.lemmas.List.{take_at, length_push, length-map}
use Rattle.std.proofs.lemmas.List.Elements.{All-tail, All-map, All-filter, filter_passes, recursion_from_All}
use Rattle.std.proofs.lemmas.List.Sums.{length-filter, count_by-le-length}
use Rattle.std.proofs.lemmas.List.Sorted.{length_permutation, IsPermutation-map, All-permutation, Contains-permutation}
use Rattle.std.proofs.lemmas.Cmp.{nat_eq_equiv}
use Rattle.std.proofs.lemmas.Map.Keys.{IsDistinct-head, IsDistinct-tail, IsDistinct-cons, IsDistinct-IsPermutation}
use Rattle.client_request.specs.Numbered.{entry_at}
use Rattle.client_request.specs.Timers.{Entry, numbers_of}
use Rattle.client_request.specs.TimerHeap.{urgency_cmp, top_is_cancelled, DropsCancelled}
use Rattle.client_request.proofs.TimerOrder.{urgency_total}
use Rattle.client_request.proofs.TimerTable.{no_more}

-- what a slice of a whole vector writes back
pub written : (zs items : List Entry) (n : ℕ) → length zs ≡ n → take n (zs ++ drop (length zs) items) ≡ zs
written zs items n long = take_at zs (drop (length zs) items) n long

pub chosen : {A : Type 0} (b : Bool) (x y z : A) → z ≡ (if b then x else y) → b ≡ true → z ≡ x
chosen true x y z is took = is
chosen false x y z is took = absurd (cc)

-- an entry sank from the top
sunk : (xs ys : List Entry) → length ys ≡ length xs → SiftsDown urgency_cmp xs 0 (length xs) ys → RestoresHeap urgency_cmp xs 1 (length xs) ys
unfolding SiftsDown RestoresHeap IsHeap
sunk xs ys long sinks = λ h p k d lo a b f. sinks.1 (λ q j e above c g i. h q j e (omega arith) c g i) p k d lo a b (omega arith)

-- The top of xs was taken out, the last put in its place to give ys, and sunk to give zs.
pub popped : (xs ys zs : List Entry) (x : Entry) → length ys + 1 ≡ length xs → x ≡ get_or xs 0 x → ys ≡ swap_remove xs 0 x → IsPermutation ys zs → SiftsDown urgency_cmp ys 0 (length ys) zs → KeepsHeap urgency_cmp xs zs × IsPermutation xs (x ∷ zs)
popped xs ys zs x long first is moves sinks = (
  λ h. (sifts.popped urgency_cmp urgency_total xs ys zs x (length ys) long first is (sunk ys zs (length_permutation ys zs moves) sinks) h).0,
  again xs (x ∷ ys) (x ∷ zs) (under x ys zs moves) (again xs _ (x ∷ ys) (same _ (x ∷ ys) (ap (λ l. x ∷ l) is)) (taken_at xs 0 x (omega arith) first)),
)

-- An entry was put at the end of xs to give ys, and rose to give zs.
pub pushed : (xs ys zs : List Entry) (x : Entry) (j : ℕ) → j ≡ length xs → ys ≡ xs ++ x ∷ [] → IsPermutation ys zs → SiftsUp urgency_cmp ys j zs → KeepsHeap urgency_cmp xs zs × IsPermutation (x ∷ xs) zs
pushed xs ys zs x j last is moves rises =
    let one : length ys ≡ length xs + 1 = ap length is ∙ length_push xs x in
    let long : length zs ≡ length ys = length_permutation ys zs moves in (
      sifts.pushed urgency_cmp urgency_total xs (x ∷ []) ys zs j last is (omega arith) rises,
      again (x ∷ xs) ys zs moves (again (x ∷ xs) (xs ++ x ∷ []) ys (same _ ys is) (back _ _ (to_front xs x))),
    )

-- ---- dropping what is cancelled

pub drops_none : (table : List (ℕ × ℕ)) (xs : List Entry) → DropsCancelled table xs xs
drops_none table xs = record { order = λ h. h; once = λ h. h; drawn = λ n h. h; stands = λ e is h. h; fewer = omega arith }

pub drops_more : (table : List (ℕ × ℕ)) (xs ys zs : List Entry) → DropsCancelled table xs ys → DropsCancelled table ys zs → DropsCancelled table xs zs
drops_more table xs ys zs first second = record {
  order = λ h. second.order (first.order h);
  once = λ h. second.once (first.once h);
  drawn = λ n h. second.drawn n (first.drawn n h);
  stands = λ e is h. second.stands e is (first.stands e is h);
  fewer = omega (arith, first.fewer, second.fewer);
}

gone_and_set : (o : Option ℕ) → is_none o ≡ true → IsSome o → ⊥
gone_and_set None gone set = cc
gone_and_set (Some v) gone set = cc

still : (table : List (ℕ × ℕ)) (zs : List Entry) (x e : Entry) → is_none (entry_at x.1.0 table) ≡ true → IsSome (entry_at e.1.0 table) → Contains (x ∷ zs) e → Contains zs e
still table zs x e gone set (zero, within, is) = absurd (gone_and_set (entry_at x.1.0 table) gone (subst (λ (t : Entry). IsSome (entry_at t.1.0 table)) (sym is) set))
still table zs x e gone set (suc k, within, is) = (k, omega arith, is)

-- what is cancelled was at the top of xs
pub drops_top : (table : List (ℕ × ℕ)) (xs zs : List Entry) (x : Entry) → top_is_cancelled table xs ≡ true → x ≡ get_or xs 0 x → IsPermutation xs (x ∷ zs) → KeepsHeap urgency_cmp xs zs → DropsCancelled table xs zs
drops_top table [] zs x gone first moves order = absurd (cc)
drops_top table (y ∷ ys) zs x gone first moves order = record {
  order = order;
  once = λ h. IsDistinct-tail nat_eq x.1.0 (numbers_of zs) (IsDistinct-IsPermutation nat_eq nat_eq_equiv.symm (numbers_of (y ∷ ys)) (numbers_of (x ∷ zs)) (IsPermutation-map (λ (e : Entry). e.1.0) (y ∷ ys) (x ∷ zs) moves) h);
  drawn = λ n h. All-tail (λ (e : Entry). e.1.0 < n) x zs (All-permutation (λ (e : Entry). e.1.0 < n) (y ∷ ys) (x ∷ zs) moves h);
  stands = λ e set h. still table zs x e (subst (λ (t : Entry). is_none (entry_at t.1.0 table) ≡ true) (sym first) gone) set (Contains-permutation (y ∷ ys) (x ∷ zs) e moves h);
  fewer = omega (arith, length_permutation (y ∷ ys) (x ∷ zs) moves);
}

-- ---- dropping all that is cancelled

abbrev is_set : List (ℕ × ℕ) → Entry → Bool
is_set table e = is_some (entry_at e.1.0 table)

stays_apart : (n : ℕ) (b : Bool) (x : Entry) (ys : List Entry) → nat_eq n x.1.0 ≡ false → AllByRecursion (λ m. nat_eq n m ≡ false) (numbers_of ys) → AllByRecursion (λ m. nat_eq n m ≡ false) (numbers_of (cond b (x ∷ ys) ys))
stays_apart n true x ys first rest = (first, rest)
stays_apart n false x ys first rest = rest

apart_from_kept : (p : Entry → Bool) (n : ℕ) (xs : List Entry) → AllByRecursion (λ m. nat_eq n m ≡ false) (numbers_of xs) → AllByRecursion (λ m. nat_eq n m ≡ false) (numbers_of (filter p xs))
apart_from_kept p n [] apart = apart
apart_from_kept p n (x ∷ xs) apart = stays_apart n (p x) x (filter p xs) apart.0 (apart_from_kept p n xs apart.1)

stays_distinct : (b : Bool) (x : Entry) (ys : List Entry) → AllByRecursion (λ m. nat_eq x.1.0 m ≡ false) (numbers_of ys) → IsDistinct nat_eq (numbers_of ys) → IsDistinct nat_eq (numbers_of (cond b (x ∷ ys) ys))
stays_distinct true x ys apart once = IsDistinct-cons nat_eq x.1.0 (numbers_of ys) apart once
stays_distinct false x ys apart once = once

distinct_kept : (p : Entry → Bool) (xs : List Entry) → IsDistinct nat_eq (numbers_of xs) → IsDistinct nat_eq (numbers_of (filter p xs))
distinct_kept p [] once = once
distinct_kept p (x ∷ xs) once =
    stays_distinct (p x) x (filter p xs)
    (apart_from_kept p x.1.0 xs (IsDistinct-head nat_eq x.1.0 (numbers_of xs) once))
    (distinct_kept p xs (IsDistinct-tail nat_eq x.1.0 (numbers_of xs) once))

stays_first : (b : Bool) (x e : Entry) (ys : List Entry) → b ≡ true → x ≡ e → Contains (cond b (x ∷ ys) ys) e
stays_first true x e ys passes is = (0, omega arith, is)
stays_first false x e ys passes is = absurd (cc)

stays_later : (b : Bool) (x e : Entry) (ys : List Entry) → Contains ys e → Contains (cond b (x ∷ ys) ys) e
stays_later true x e ys (k, within, is) = (suc k, omega arith, is)
stays_later false x e ys member = member

contains_kept : (p : Entry → Bool) (xs : List Entry) (e : Entry) → p e ≡ true → Contains xs e → Contains (filter p xs) e
contains_kept p [] e passes (k, within, is) = absurd (omega arith)
contains_kept p (x ∷ xs) e passes (zero, within, is) = stays_first (p x) x e (filter p xs) (ap p is ∙ passes) is
contains_kept p (x ∷ xs) e passes (suc k, within, is) = stays_later (p x) x e (filter p xs) (contains_kept p xs e passes (k, omega arith, is))

-- What is set of xs was kept to give ys, and put in order to give zs.
pub drops_all : (table : List (ℕ × ℕ)) (xs ys zs : List Entry) → ys ≡ filter (is_set table) xs → IsPermutation ys zs → IsHeap urgency_cmp zs → DropsCancelled table xs zs
drops_all table xs ys zs is moves order = record {
  order = λ h. order;
  once = λ h. IsDistinct-IsPermutation nat_eq nat_eq_equiv.symm (numbers_of ys) (numbers_of zs) (IsPermutation-map (λ (e : Entry). e.1.0) ys zs moves)
      (subst (λ (l : List Entry). IsDistinct nat_eq (numbers_of l)) (sym is) (distinct_kept (is_set table) xs h));
  drawn = λ n h. All-permutation (λ (e : Entry). e.1.0 < n) ys zs moves (subst (All (λ (e : Entry). e.1.0 < n)) (sym is) (All-filter (is_set table) (λ (e : Entry). e.1.0 < n) xs h));
  stands = λ e set h. Contains-permutation ys zs e moves
      (subst (λ (l : List Entry). Contains l e) (sym is) (contains_kept (is_set table) xs e set h));
  fewer = omega (arith, length_permutation ys zs moves, ap length is, length-filter (is_set table) xs, count_by-le-length (is_set table) xs);
}

-- what is left is set
pub all_set : (table : List (ℕ × ℕ)) (xs ys zs : List Entry) → ys ≡ filter (is_set table) xs → IsPermutation ys zs → All (λ e. IsSome (entry_at e.1.0 table)) zs
all_set table xs ys zs is moves =
    All-permutation (λ e. IsSome (entry_at e.1.0 table)) ys zs moves
    (subst (All (λ e. IsSome (entry_at e.1.0 table))) (sym is) (filter_passes (is_set table) xs))

-- entries of timers that are set, each once, are no more than the timers that are set
pub no_more_than_set : (table : List (ℕ × ℕ)) (xs : List Entry) → All (λ e. IsSome (entry_at e.1.0 table)) xs → IsDistinct nat_eq (numbers_of xs) → length xs ≤ length table
no_more_than_set table xs set once =
    let found = recursion_from_All (λ n. is_some (entry_at n table) ≡ true) (numbers_of xs) (All-map (λ n. is_some (entry_at n table) ≡ true) (λ (e : Entry). e.1.0) xs set) in
    let fewer = no_more (numbers_of xs) table once found in
    let long = length-map xs (λ (e : Entry). e.1.0) in
    omega arith
