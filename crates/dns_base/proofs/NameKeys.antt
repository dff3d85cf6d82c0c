-- The keys of names: that of a name begins with that of each suffix, and keys that begin alike stand together in their order.
use Rattle.std.proofs.Common.{◌≡◌, ℕ, zero, suc, ◌+◌, ◌-◌, ◌<◌, ◌≤◌, ◌⊎◌, inl, inr, List, [], ◌∷◌, ◌++◌, length, take, drop, get_or, map, length-append, Bool, true, false, ◌&&◌, ◌==◌, refl, ap, sym, subst, ◌∙◌, arith, append_assoc, append-nil}
use Rattle.std.proofs.lemmas.Bool.{false_from_ne_true, eqb-true, eqb-false, eq-eqb, ltb-true, ltb-false, lt-ltb, and_parts, both_ways}
use Rattle.std.proofs.lemmas.Bool.Decides.{nat_tests}
use Rattle.std.proofs.lemmas.Cmp.{same_from_slice_cmp_tested}
use Rattle.std.proofs.lemmas.List.{drop_at, length-drop, length-map, take-append-drop, take_at}
use Rattle.std.specs.Char.{to_ascii_lowercase}
use Rattle.std.specs.Cmp.Lexicographic.{slice_partial_cmp}
use Rattle.std.specs.List.{starts_with}
use Rattle.std.specs.Ordering.{is_le, is_some_and, nat_cmp}
use Rattle.std.specs.Prelude.{Some}
use Rattle.dns_names.specs.Name.{Labels, lowered}
use Rattle.dns_base.specs.Suffixes.{IsCommon, at_most, begins, name_key, spelled}

-- The order of keys.

pub at_most_is : (xs ys : List ℕ) (r : Bool) → r ≡ is_some_and is_le (slice_partial_cmp (λ x y. Some (nat_cmp x y)) xs ys) → r ≡ at_most xs ys
at_most_is = same_from_slice_cmp_tested nat_cmp is_le at_most refl (λ _ _. refl) (λ _ _. refl) (λ x y xs ys o h. grind (arith, nat_tests))

le_parts : (x y : ℕ) (xs ys : List ℕ) → at_most (x ∷ xs) (y ∷ ys) ≡ true → (x < y) ⊎ ((x ≡ y) × (at_most xs ys ≡ true))
le_parts x y xs ys h = by (x == y) refl
  where
    by : (b : Bool) → (x == y) ≡ b → (x < y) ⊎ ((x ≡ y) × (at_most xs ys ≡ true))
    by true e = inr (eqb-true x y e, rw e at h)
    by false e = inl (ltb-true x y (rw e at h))

le_below : (x y : ℕ) (xs ys : List ℕ) → x < y → at_most (x ∷ xs) (y ∷ ys) ≡ true
le_below x y xs ys h = by (x == y) refl
  where
    by : (b : Bool) → (x == y) ≡ b → at_most (x ∷ xs) (y ∷ ys) ≡ true
    by true e = let same = eqb-true x y e in absurd (omega arith)
    by false e = rw e (lt-ltb x y h)

le_same : (x y : ℕ) (xs ys : List ℕ) → x ≡ y → at_most xs ys ≡ true → at_most (x ∷ xs) (y ∷ ys) ≡ true
le_same x y xs ys same h = rw (eq-eqb x y same) h

pub le_itself : (xs : List ℕ) → at_most xs xs ≡ true
le_itself [] = refl
le_itself (x ∷ xs) = le_same x x xs xs refl (le_itself xs)

pub le_on : (xs ys zs : List ℕ) → at_most xs ys ≡ true → at_most ys zs ≡ true → at_most xs zs ≡ true
le_on [] ys zs h g = refl
le_on (x ∷ xs) [] zs h g = absurd cc
le_on (x ∷ xs) (y ∷ ys) [] h g = absurd cc
le_on (x ∷ xs) (y ∷ ys) (z ∷ zs) h g =
    elim (le_parts x y xs ys h) [
      | inl a ↦ elim (le_parts y z ys zs g) [ inl b ↦ le_below x z xs zs (omega arith) | inr b ↦ let same = b.0 in le_below x z xs zs (omega arith) ]
      | inr a ↦
          let same = a.0 in
          elim (le_parts y z ys zs g) [ inl b ↦ le_below x z xs zs (omega arith) | inr b ↦ le_same x z xs zs (a.0 ∙ b.0) (le_on xs ys zs a.1 b.1) ]
    ]

pub le_other : (xs ys : List ℕ) → at_most xs ys ≡ false → at_most ys xs ≡ true
le_other [] ys h = absurd cc
le_other (x ∷ xs) [] h = refl
le_other (x ∷ xs) (y ∷ ys) h = by (le_other xs ys) (x == y) refl
  where
    by : (at_most xs ys ≡ false → at_most ys xs ≡ true) → (b : Bool) → (x == y) ≡ b → at_most (y ∷ ys) (x ∷ xs) ≡ true
    by rest true e = le_same y x ys xs (sym (eqb-true x y e)) (rest (rw e at h))
    by rest false e =
        let apart = eqb-false x y e in
        let above : y ≤ x = ltb-false x y (rw e at h) in
        le_below y x ys xs (omega arith)

-- What begins alike.

begin_parts : (x y : ℕ) (xs ys : List ℕ) → begins (x ∷ xs) (y ∷ ys) ≡ true → (x ≡ y) × (begins xs ys ≡ true)
begin_parts x y xs ys h = let p = and_parts (x == y) (begins xs ys) h in (eqb-true x y p.0, p.1)

begin_same : (x y : ℕ) (xs ys : List ℕ) → x ≡ y → begins xs ys ≡ true → begins (x ∷ xs) (y ∷ ys) ≡ true
begin_same x y xs ys same h = rw (eq-eqb x y same, h) refl

pub begins_first : (p q : List ℕ) → begins p (p ++ q) ≡ true
begins_first [] q = refl
begins_first (x ∷ p) q = begin_same x x p (p ++ q) refl (begins_first p q)

-- what begins with a list begins with what that begins with
pub begins_less : (p q xs : List ℕ) → begins (p ++ q) xs ≡ true → begins p xs ≡ true
begins_less [] q xs h = refl
begins_less (x ∷ p) q [] h = absurd cc
begins_less (x ∷ p) q (y ∷ ys) h = let parts = begin_parts x y (p ++ q) ys h in begin_same x y p ys parts.0 (begins_less p q ys parts.1)

-- behind the same
begins_behind : (p a b : List ℕ) → begins (p ++ a) (p ++ b) ≡ true → begins a b ≡ true
begins_behind [] a b h = h
begins_behind (x ∷ p) a b h = begins_behind p a b ((begin_parts x x (p ++ a) (p ++ b) h).1)

-- Between two lists that begin alike in the order of keys all do.
pub between : (p a b c : List ℕ) → begins p a ≡ true → begins p c ≡ true → at_most a b ≡ true → at_most b c ≡ true → begins p b ≡ true
between [] a b c h g l m = refl
between (x ∷ p) [] b c h g l m = absurd cc
between (x ∷ p) (y ∷ a) b [] h g l m = absurd cc
between (x ∷ p) (y ∷ a) [] (z ∷ c) h g l m = absurd cc
between (x ∷ p) (y ∷ a) (n ∷ b) (z ∷ c) h g l m =
    let first = begin_parts x y p a h in
    let last = begin_parts x z p c g in
    let y_is = first.0 in
    let z_is = last.0 in
    elim (le_parts y n a b l) [
      | inl under ↦ elim (le_parts n z b c m) [ inl over ↦ absurd (omega arith) | inr over ↦ let same = over.0 in absurd (omega arith) ]
      | inr under ↦
          let here = under.0 in
          elim (le_parts n z b c m) [ inl over ↦ absurd (omega arith) | inr over ↦ begin_same x n p b (y_is ∙ here) (between p a b c first.1 last.1 under.1 over.1) ]
    ]

-- the order of keys that begin alike is that of what stands behind
pub at_most_behind : (n : ℕ) (xs ys : List ℕ) → n ≤ length xs → begins (take n xs) ys ≡ true → at_most xs ys ≡ at_most (drop n xs) (drop n ys)
at_most_behind zero xs ys long h = refl
at_most_behind (suc n) [] ys long h = absurd (omega arith)
at_most_behind (suc n) (x ∷ xs) [] long h = absurd cc
at_most_behind (suc n) (x ∷ xs) (y ∷ ys) long h =
    let parts = begin_parts x y (take n xs) ys h in
    let here : at_most (x ∷ xs) (y ∷ ys) ≡ at_most xs ys = rw (eq-eqb x y parts.0) refl in
    here ∙ at_most_behind n xs ys (omega arith) parts.1

pub starts_is : (p xs : List ℕ) → starts_with ◌==◌ xs p ≡ begins p xs
starts_is [] xs = refl
starts_is (x ∷ p) [] = refl
starts_is (x ∷ p) (y ∷ xs) = ap (λ b. (x == y) && b) (starts_is p xs)

-- A key, label by label: the labels from the last on, in lower case.

abbrev pub from_last : Labels → Labels
from_last [] = []
from_last (label ∷ labels) = from_last labels ++ (map to_ascii_lowercase label ∷ [])

spelled_append : (a b : Labels) → spelled (a ++ b) ≡ spelled a ++ spelled b
spelled_append [] b = refl
spelled_append (l ∷ a) b = ap (λ (x : List ℕ). length l ∷ (l ++ x)) (spelled_append a b) ∙ ap (λ (x : List ℕ). length l ∷ x) (sym (append_assoc l (spelled a) (spelled b)))

pub key_spelled : (labels : Labels) → name_key labels ≡ spelled (from_last labels)
key_spelled [] = refl
key_spelled (l ∷ labels) =
    let low : List ℕ = map to_ascii_lowercase l in
    let long : length l ≡ length low = sym (length-map l to_ascii_lowercase) in
    let alone : (length l ∷ low) ≡ spelled (low ∷ []) = ap (λ (n : ℕ). n ∷ low) long ∙ ap (λ (x : List ℕ). length low ∷ x) (sym (append-nil low)) in
    ap (λ (x : List ℕ). x ++ (length l ∷ low)) (key_spelled labels) ∙ ap (λ (x : List ℕ). spelled (from_last labels) ++ x) alone ∙ sym (spelled_append (from_last labels) (low ∷ []))

pub from_last_append : (front rest : Labels) → from_last (front ++ rest) ≡ from_last rest ++ from_last front
from_last_append [] rest = sym (append-nil (from_last rest))
from_last_append (l ∷ front) rest =
    let low : Labels = map to_ascii_lowercase l ∷ [] in
    ap (λ (x : Labels). x ++ low) (from_last_append front rest) ∙ append_assoc (from_last rest) (from_last front) low

pub key_append : (front rest : Labels) → name_key (front ++ rest) ≡ name_key rest ++ name_key front
key_append [] rest = sym (append-nil (name_key rest))
key_append (l ∷ front) rest =
    let part : List ℕ = length l ∷ map to_ascii_lowercase l in
    ap (λ (x : List ℕ). x ++ part) (key_append front rest) ∙ append_assoc (name_key rest) (name_key front) part

pub key_begins : (front rest : Labels) → begins (name_key rest) (name_key (front ++ rest)) ≡ true
key_begins front rest = ap (begins (name_key rest)) (key_append front rest) ∙ begins_first (name_key rest) (name_key front)

pub from_last_length : (labels : Labels) → length (from_last labels) ≡ length labels
from_last_length [] = refl
from_last_length (l ∷ labels) = omega (arith, length-append (from_last labels) (map to_ascii_lowercase l ∷ []), from_last_length labels)

abbrev back : Labels → Labels
back [] = []
back (x ∷ xs) = back xs ++ (x ∷ [])

back_last : (a : Labels) (x : List ℕ) → back (a ++ (x ∷ [])) ≡ x ∷ back a
back_last [] x = refl
back_last (y ∷ a) x = ap (λ (z : Labels). z ++ (y ∷ [])) (back_last a x)

back_from_last : (labels : Labels) → back (from_last labels) ≡ lowered labels
back_from_last [] = refl
back_from_last (l ∷ labels) = back_last (from_last labels) (map to_ascii_lowercase l) ∙ ap (λ (z : Labels). map to_ascii_lowercase l ∷ z) (back_from_last labels)

same_from_last : (a b : Labels) → from_last a ≡ from_last b → lowered a ≡ lowered b
same_from_last a b e = sym (back_from_last a) ∙ ap back e ∙ back_from_last b

abbrev key_low : Labels → List ℕ
key_low [] = []
key_low (l ∷ labels) = key_low labels ++ (length l ∷ l)

key_of_low : (labels : Labels) → name_key labels ≡ key_low (lowered labels)
key_of_low [] = refl
key_of_low (l ∷ labels) =
    let low : List ℕ = map to_ascii_lowercase l in
    ap (λ (x : List ℕ). x ++ (length l ∷ low)) (key_of_low labels) ∙ ap (λ (n : ℕ). key_low (lowered labels) ++ (n ∷ low)) (sym (length-map l to_ascii_lowercase))

-- names that are the same but for case have the same key
pub keys_agree : (a b : Labels) → lowered a ≡ lowered b → name_key a ≡ name_key b
keys_agree a b e = key_of_low a ∙ ap key_low e ∙ sym (key_of_low b)

none_taken : (a : Labels) → take 0 a ≡ []
none_taken [] = refl
none_taken (l ∷ a) = refl

pub common_none : (b : Labels) → IsCommon [] b 0
common_none b = record {
  few = omega arith;
  few_too = omega arith;
  same = sym (none_taken b);
  longest = λ p q e h. absurd (omega (arith, ap length e, length-append p q));
}

abbrev others : Labels → Labels
others [] = []
others (l ∷ labels) = labels

abbrev head_or : Labels → List ℕ
head_or [] = []
head_or (l ∷ labels) = l

pub common_apart : (l : List ℕ) (a b : Labels) → begins (length l ∷ l) (spelled b) ≡ false → IsCommon (l ∷ a) b 0
common_apart l a b other = record {
  few = omega arith;
  few_too = omega arith;
  same = none_taken (l ∷ a) ∙ sym (none_taken b);
  longest = longest;
}
  where
    longest : (p q : Labels) → (l ∷ a) ≡ p ++ q → 0 < length p → begins (spelled p) (spelled b) ≡ false
    longest [] q e h = absurd (omega arith)
    longest (x ∷ p) q e h =
        let first : l ≡ x = ap head_or e in
        false_from_ne_true _ (λ is. both_ways (begins (length l ∷ l) (spelled b)) other
        (ap (λ (z : List ℕ). begins (length z ∷ z) (spelled b)) first ∙ begins_less (length x ∷ x) (spelled p) (spelled b) is))

pub common_next : (l : List ℕ) (a b : Labels) (count : ℕ) → IsCommon a b count → IsCommon (l ∷ a) (l ∷ b) (suc count)
common_next l a b count c = record {
  few = omega (arith, c.few);
  few_too = omega (arith, c.few_too);
  same = ap (λ (z : Labels). l ∷ z) c.same;
  longest = longest;
}
  where
    longest : (p q : Labels) → (l ∷ a) ≡ p ++ q → suc count < length p → begins (spelled p) (spelled (l ∷ b)) ≡ false
    longest [] q e h = absurd (omega arith)
    longest (x ∷ p) q e h =
        let first : l ≡ x = ap head_or e in
        let rest : a ≡ p ++ q = ap others e in
        let few : count < length p = omega arith in
        false_from_ne_true _ (λ is.
        let is' : begins ((length l ∷ l) ++ spelled p) ((length l ∷ l) ++ spelled b) ≡ true = ap (λ (z : List ℕ). begins (length z ∷ (z ++ spelled p)) (spelled (l ∷ b))) first ∙ is in
        both_ways (begins (spelled p) (spelled b)) (c.longest p q rest few) (begins_behind (length l ∷ l) (spelled p) (spelled b) is'))

-- The last labels of a name are the first of its key.
ends : (n m : ℕ) (labels : Labels) → n + m ≡ length labels → take m (from_last labels) ≡ from_last (drop n labels)
ends n m labels h =
    let parts : from_last labels ≡ from_last (drop n labels) ++ from_last (take n labels) = ap from_last (sym (take-append-drop n labels)) ∙ from_last_append (take n labels) (drop n labels) in
    let long : length (from_last (drop n labels)) ≡ m = omega (arith, from_last_length (drop n labels), length-drop n labels) in
    ap (take m) parts ∙ take_at (from_last (drop n labels)) (from_last (take n labels)) m long

pub share : (a b : Labels) (m : ℕ) → IsCommon (from_last a) (from_last b) m → lowered (drop (length a - m) a) ≡ lowered (drop (length b - m) b)
share a b m c =
    let few : m ≤ length a = omega (arith, c.few, from_last_length a) in
    let few_too : m ≤ length b = omega (arith, c.few_too, from_last_length b) in
    same_from_last _ _ (sym (ends (length a - m) m a (omega arith)) ∙ c.same ∙ ends (length b - m) m b (omega arith))

pub share_no_more : (a b : Labels) (m : ℕ) → IsCommon (from_last a) (from_last b) m → (front rest : Labels) → a ≡ front ++ rest → m < length rest → begins (name_key rest) (name_key b) ≡ false
share_no_more a b m c front rest e h =
    ap (λ (x : List ℕ). begins x (name_key b)) (key_spelled rest) ∙ ap (begins (spelled (from_last rest))) (key_spelled b)
    ∙ c.longest (from_last rest) (from_last front) (ap from_last e ∙ from_last_append front rest) (omega (arith, from_last_length rest))

-- lists of one length that begin alike
same_first : (l m rest : List ℕ) → length l ≡ length m → begins l (m ++ rest) ≡ true → l ≡ m
same_first [] [] rest e h = refl
same_first [] (y ∷ m) rest e h = absurd (omega arith)
same_first (x ∷ l) [] rest e h = absurd (omega arith)
same_first (x ∷ l) (y ∷ m) rest e h =
    let parts = begin_parts x y l (m ++ rest) h in
    let behind = same_first l m rest (omega arith) parts.1 in
    ap (λ (z : ℕ). z ∷ l) parts.0 ∙ ap (λ (z : List ℕ). y ∷ z) behind

common_first : (l : List ℕ) (a b : Labels) (count : ℕ) (other : List ℕ) → other ≡ spelled b → begins (length l ∷ l) other ≡ true
    → ((y : Labels) → drop (suc (length l)) other ≡ spelled y → IsCommon a y count) → IsCommon (l ∷ a) b (suc count)
common_first l a [] count other is starts rest = let h : begins (length l ∷ l) [] ≡ true = ap (begins (length l ∷ l)) (sym is) ∙ starts in absurd cc
common_first l a (m ∷ b) count other is starts rest =
    let h : begins (length l ∷ l) (length m ∷ (m ++ spelled b)) ≡ true = ap (begins (length l ∷ l)) (sym is) ∙ starts in
    let parts = begin_parts (length l) (length m) l (m ++ spelled b) h in
    let same : l ≡ m = same_first l m (spelled b) parts.0 parts.1 in
    let behind : drop (suc (length l)) other ≡ spelled b = ap (drop (suc (length l))) is ∙ drop_at m (spelled b) (length l) (sym parts.0) in
    subst (λ (z : List ℕ). IsCommon (l ∷ a) (z ∷ b) (suc count)) same (common_next l a b count (rest b behind))

first_label : (key : List ℕ) (n : ℕ) (l : List ℕ) (a : Labels) → key ≡ spelled (l ∷ a) → length l ≡ n → take (1 + n) key ≡ length l ∷ l
first_label key n l a is n_is =
    let one : 1 + n ≡ suc (length l) = omega arith in
    ap (λ (m : ℕ). take m key) one ∙ ap (take (suc (length l))) is ∙ ap (λ (x : List ℕ). length l ∷ x) (take_at l (spelled a) (length l) refl)

-- Keys of which one is empty.
pub common_in_none : (key : List ℕ) (a b : Labels) → length key ≡ 0 → key ≡ spelled a → IsCommon a b 0
common_in_none key [] b none is = common_none b
common_in_none key (l ∷ a) b none is = absurd (omega (arith, ap length is))

-- Keys whose first labels differ.
pub common_in_first : (key other : List ℕ) (n : ℕ) (a b : Labels) → 0 < length key → get_or key 0 n ≡ n → key ≡ spelled a → other ≡ spelled b
    → (1 + n ≤ length key → starts_with ◌==◌ other (take (1 + n) key) ≡ false) → IsCommon a b 0
common_in_first key other n [] b some first is is_too differs = absurd (omega (arith, ap length is))
common_in_first key other n (l ∷ a) b some first is is_too differs =
    let n_is : length l ≡ n = ap (λ (k : List ℕ). get_or k 0 n) (sym is) ∙ first in
    let long : 1 + n ≤ length key = omega (arith, ap length is, length-append l (spelled a)) in
    let front : take (1 + n) key ≡ length l ∷ l = first_label key n l a is n_is in
    let no : begins (length l ∷ l) (spelled b) ≡ false = ap (begins (length l ∷ l)) (sym is_too) ∙ sym (starts_is (length l ∷ l) other) ∙ ap (starts_with ◌==◌ other) (sym front) ∙ differs long in
    common_apart l a b no

-- Keys whose first labels are the same.
pub common_behind_first : (key other : List ℕ) (n count : ℕ) (a b : Labels) → 0 < length key → get_or key 0 n ≡ n → key ≡ spelled a → other ≡ spelled b
    → starts_with ◌==◌ other (take (1 + n) key) ≡ true → ((x y : Labels) → drop (1 + n) key ≡ spelled x → drop (1 + n) other ≡ spelled y → IsCommon x y count) → IsCommon a b (1 + count)
common_behind_first key other n count [] b some first is is_too same rest = absurd (omega (arith, ap length is))
common_behind_first key other n count (l ∷ a) b some first is is_too same rest =
    let n_is : length l ≡ n = ap (λ (k : List ℕ). get_or k 0 n) (sym is) ∙ first in
    let one : 1 + n ≡ suc (length l) = omega arith in
    let front : take (1 + n) key ≡ length l ∷ l = first_label key n l a is n_is in
    let starts : begins (length l ∷ l) other ≡ true = sym (starts_is (length l ∷ l) other) ∙ ap (starts_with ◌==◌ other) (sym front) ∙ same in
    let its : drop (1 + n) key ≡ spelled a = ap (λ (m : ℕ). drop m key) one ∙ ap (drop (suc (length l))) is ∙ drop_at l (spelled a) (length l) refl in
    let more : suc count ≡ 1 + count = omega arith in
    subst (IsCommon (l ∷ a) b) more (common_first l a b count other is_too starts (λ y e. rest a y its (ap (λ (m : ℕ). drop m other) one ∙ e)))
