-- A table of names in the order of their keys: where a key goes, and what the names next to it share with its name.
use Rattle.std.proofs.Common.{◌≡◌, ℕ, zero, suc, ◌-◌, ◌<◌, ◌≤◌, List, [], ◌∷◌, length, take, drop, get_or, insert, refl, ap, sym, subst, ◌∙◌, true, false, arith, drop-cons}
use Rattle.std.proofs.lemmas.Bool.{both_ways, false_from_ne_true}
use Rattle.std.proofs.lemmas.List.{drop_all, take_at}
use Rattle.std.proofs.lemmas.List.Elements.{All-from_recursion}
use Rattle.std.specs.List.{AllByRecursion}
use Rattle.std.specs.List.Sorted.{IsPartitionedBy, IsPartitionPoint}
use Rattle.std.specs.Prelude.{Option}
use Rattle.dns_names.specs.Name.{Labels}
use Rattle.dns_base.specs.declared.suffixes.Known.{Known}
use Rattle.dns_base.specs.Suffixes.{IsCommon, IsKnown, IsPlaceOf, IsShared, NoneEnds, Rise, at_most, begins, firsts_of, name_key, spelled}
use Rattle.dns_base.proofs.FirstPlaces.{firsts_length, shared_firsts}
use Rattle.dns_base.proofs.NameKeys.{between, from_last, from_last_length, key_begins, key_spelled, le_itself, le_on, le_other, share, share_no_more}

-- what all elements of a list are

pub all_map : {X : Type 0} (P Q : X → Type 0) (xs : List X) → ((x : X) → P x → Q x) → AllByRecursion P xs → AllByRecursion Q xs
all_map P Q [] f h = tt
all_map P Q (x ∷ xs) f h = (f x h.0, all_map P Q xs f h.1)

pub all_insert : {X : Type 0} (P : X → Type 0) (xs : List X) (at : ℕ) (x : X) → AllByRecursion P xs → P x → AllByRecursion P (insert xs at x)
all_insert P [] zero x h px = (px, tt)
all_insert P (y ∷ ys) zero x h px = (px, h)
all_insert P [] (suc at) x h px = (px, tt)
all_insert P (y ∷ ys) (suc at) x h px = (h.0, all_insert P ys at x h.1 px)

pub all_inserted : {X : Type 0} (P : X → Type 0) (xs : List X) (at : ℕ) (x : X) → AllByRecursion P (insert xs at x) → P x × AllByRecursion P xs
all_inserted P [] zero x h = (h.0, tt)
all_inserted P (y ∷ ys) zero x h = h
all_inserted P [] (suc at) x h = (h.0, tt)
all_inserted P (y ∷ ys) (suc at) x h = let rest = all_inserted P ys at x h.1 in (rest.0, (h.0, rest.1))

pub rise_insert : (names : List Known) (at : ℕ) (k : Known) → Rise names → AllByRecursion (λ known. at_most known.key.items k.key.items ≡ true) (take at names)
    → AllByRecursion (λ known. at_most known.key.items k.key.items ≡ false) (drop at names) → Rise (insert names at k)
rise_insert [] zero k rise before behind = (tt, tt)
rise_insert (y ∷ ys) zero k rise before behind = (all_map _ _ (y ∷ ys) (λ z h. le_other z.key.items k.key.items h) behind, rise)
rise_insert [] (suc at) k rise before behind = (tt, tt)
rise_insert (y ∷ ys) (suc at) k rise before behind = (all_insert _ ys at k rise.0 before.0, rise_insert ys at k rise.1 before.1 behind)

-- Where a key goes.

rise_at : (names : List Known) (i j : ℕ) (d : Known) → Rise names → i ≤ j → j < length names → at_most (get_or names i d).key.items (get_or names j d).key.items ≡ true
rise_at [] i j d rise h g = absurd (omega arith)
rise_at (y ∷ ys) zero zero d rise h g = le_itself y.key.items
rise_at (y ∷ ys) zero (suc j) d rise h g = All-from_recursion (λ (k : Known). at_most y.key.items k.key.items ≡ true) ys rise.0 j d (omega arith)
rise_at (y ∷ ys) (suc i) zero d rise h g = absurd (omega arith)
rise_at (y ∷ ys) (suc i) (suc j) d rise h g = rise_at ys i j d rise.1 (omega arith) (omega arith)

pub rise_parted : (names : List Known) (key : List ℕ) → Rise names → IsPartitionedBy (λ (k : Known). at_most k.key.items key) names
rise_parted names key rise = λ i j d h g e. le_on (get_or names i d).key.items (get_or names j d).key.items key (rise_at names i j d rise h g) e

within_taken : {X : Type 0} (P : X → Type 0) (xs : List X) (i : ℕ) → ((k : ℕ) (d : X) → k < i → P (get_or xs k d)) → AllByRecursion P (take i xs)
within_taken P [] zero h = tt
within_taken P (x ∷ xs) zero h = tt
within_taken P [] (suc i) h = tt
within_taken P (x ∷ xs) (suc i) h = (h 0 x (omega arith), within_taken P xs i (λ k d g. h (suc k) d (omega arith)))

within_dropped : {X : Type 0} (P : X → Type 0) (xs : List X) (i : ℕ) → ((k : ℕ) (d : X) → i ≤ k → k < length xs → P (get_or xs k d)) → AllByRecursion P (drop i xs)
within_dropped P [] zero h = tt
within_dropped P (x ∷ xs) zero h = (h 0 x (omega arith) (omega arith), within_dropped P xs zero (λ k d g l. h (suc k) d (omega arith) (omega arith)))
within_dropped P [] (suc i) h = tt
within_dropped P (x ∷ xs) (suc i) h = within_dropped P xs i (λ k d g l. h (suc k) d (omega arith) (omega arith))

pub is_place : (names : List Known) (key : List ℕ) (at : ℕ) → at ≤ length names
    → IsPartitionPoint (λ (k : Known). at_most k.key.items key ≡ true) (λ (k : Known). at_most k.key.items key ≡ false) names at → IsPlaceOf key names at
is_place names key at long h = record {
  long = long;
  before = within_taken (λ (k : Known). at_most k.key.items key ≡ true) names at (λ k d g. h.0 k d (omega arith) g);
  behind = within_dropped (λ (k : Known). at_most k.key.items key ≡ false) names at (λ k d g l. h.1 k d g l);
}

-- What a name shares with one other.
pub shared_with : (o ps key : List ℕ) (labels : Labels) (known : Known) (count : ℕ) (firsts : List (Option ℕ)) → IsKnown o ps known → key ≡ name_key labels
    → ((a b : Labels) → key ≡ spelled a → known.key.items ≡ spelled b → IsCommon a b count) → firsts ≡ drop (length known.firsts.items - count) known.firsts.items
    → IsShared o ps labels (known ∷ []) firsts
shared_with o ps key labels known count firsts i is common its =
    let c = common (from_last labels) (from_last i.labels) (is ∙ key_spelled labels) (i.key ∙ key_spelled i.labels) in
    let few : count ≤ length labels = omega (arith, c.few, from_last_length labels) in
    let few_too : count ≤ length i.labels = omega (arith, c.few_too, from_last_length i.labels) in
    let parts = shared_firsts o ps labels i.labels known.firsts.items count few_too i.firsts (share labels i.labels count c) in
    let long : length firsts ≡ count = ap length its ∙ parts.0 in
    record {
      few = omega arith;
      these = ap (λ (n : ℕ). drop (length labels - n) (firsts_of o ps labels)) long ∙ parts.1 ∙ sym its;
      longest = λ front rest e h. (ap (begins (name_key rest)) i.key ∙ share_no_more labels i.labels count c front rest e (omega arith), tt);
    }

-- and with none
pub shared_none : (o ps : List ℕ) (labels : Labels) (names : List Known) (at : ℕ) → length names ≤ at → IsShared o ps labels (take 1 (drop at names)) []
shared_none o ps labels names at h =
    let none : take 1 (drop at names) ≡ [] = ap (take 1) (drop_all at names h) in
    record {
      few = omega arith;
      these = drop_all (length labels - 0) (firsts_of o ps labels) (omega (arith, firsts_length o ps labels));
      longest = λ front rest e k. subst (NoneEnds rest) (sym none) tt;
    }

pub shared_one : (o ps : List ℕ) (labels : Labels) (names : List Known) (at : ℕ) (known : Known) (firsts : List (Option ℕ)) → at < length names → known ≡ get_or names at known
    → AllByRecursion (IsKnown o ps) names → (IsKnown o ps known → IsShared o ps labels (known ∷ []) firsts) → IsShared o ps labels (take 1 (drop at names)) firsts
shared_one o ps labels names at known firsts h is all shared =
    let its : IsKnown o ps known = subst (IsKnown o ps) (sym is) (All-from_recursion (IsKnown o ps) names all at known h) in
    let first : take 1 (drop at names) ≡ known ∷ [] =
    ap (take 1) (drop-cons names at known h) ∙ take_at (get_or names at known ∷ []) (drop (suc at) names) 1 refl ∙ ap (λ (k : Known). k ∷ []) (sym is) in
    subst (λ (x : List Known). IsShared o ps labels x firsts) (sym first) (shared its)

-- Where neither neighbour of a key begins with what the key begins with, no name of the table does.
pub none_between : (names : List Known) (at : ℕ) (p key : List ℕ) → Rise names → at ≤ length names → AllByRecursion (λ known. at_most known.key.items key ≡ true) (take at names)
    → AllByRecursion (λ known. at_most known.key.items key ≡ false) (drop at names) → begins p key ≡ true
    → ((i : ℕ) → at ≡ suc i → AllByRecursion (λ known. begins p known.key.items ≡ false) (take 1 (drop i names)))
    → AllByRecursion (λ known. begins p known.key.items ≡ false) (take 1 (drop at names)) → AllByRecursion (λ known. begins p known.key.items ≡ false) names
none_between [] at p key rise long before behind is left right = tt
none_between (y ∷ ys) zero p key rise long before behind is left right =
    (right.0, all_map _ _ ys (λ z h. false_from_ne_true _ (λ mine. both_ways (begins p y.key.items) right.0 (between p key y.key.items z.key.items is mine (le_other y.key.items key behind.0) h))) rise.0)
none_between (y ∷ []) (suc zero) p key rise long before behind is left right = ((left 0 refl).0, tt)
none_between (y ∷ z ∷ ys) (suc zero) p key rise long before behind is left right =
    ((left 0 refl).0, none_between (z ∷ ys) zero p key rise.1 (omega arith) tt behind is (λ i e. absurd (omega arith)) right)
none_between (y ∷ []) (suc (suc at)) p key rise long before behind is left right = absurd (omega arith)
none_between (y ∷ z ∷ ys) (suc (suc at)) p key rise long before behind is left right =
    let others = none_between (z ∷ ys) (suc at) p key rise.1 (omega arith) before.1 behind is (λ i e. left (suc i) (ap suc e)) right in
    (false_from_ne_true _ (λ mine. both_ways (begins p z.key.items) others.0 (between p y.key.items z.key.items key mine is rise.0.0 before.1.0)), others)

-- The names next to a key share the most labels with its name.
pub shared_around : (o ps key : List ℕ) (labels : Labels) (names : List Known) (at : ℕ) (left right firsts : List (Option ℕ)) → Rise names → IsPlaceOf key names at → key ≡ name_key labels
    → ((i : ℕ) → at ≡ suc i → IsShared o ps labels (take 1 (drop i names)) left) → IsShared o ps labels (take 1 (drop at names)) right
    → IsShared o ps labels [] firsts → length left ≤ length firsts → length right ≤ length firsts → IsShared o ps labels names firsts
shared_around o ps key labels names at left right firsts rise place is l r chosen left_few right_few = record {
  few = chosen.few;
  these = chosen.these;
  longest = λ front rest e h.
      let mine : begins (name_key rest) key ≡ true = ap (begins (name_key rest)) (is ∙ ap name_key e) ∙ key_begins front rest in
      none_between names at (name_key rest) key rise place.long place.before place.behind mine (λ i at_is. (l i at_is).longest front rest e (omega arith)) (r.longest front rest e (omega arith));
}

-- of fewer names
pub shared_by_none : (o ps : List ℕ) (labels : Labels) (names : List Known) (firsts : List (Option ℕ)) → IsShared o ps labels names firsts → IsShared o ps labels [] firsts
shared_by_none o ps labels names firsts h = record { few = h.few; these = h.these; longest = λ front rest e k. tt }
