-- A stable sort gives what putting the items in their places one after another gives, by any test that is an order.
use Rattle.std.proofs.Common.{◌≡◌, ℕ, suc, ◌<◌, ◌≤◌, ◌==◌, Bool, true, false, not, ◌&&◌, List, [], ◌∷◌, ◌++◌, length, cond, refl, sym, ap, subst, ◌∙◌, arith, append-nil, append_assoc, true≢false}
use Rattle.std.proofs.lemmas.Bool.Decides.{nat_tests}
use Rattle.std.proofs.lemmas.List.Elements.{filter-append}
use Rattle.std.proofs.lemmas.List.Sorted.{sorted_far}
use Rattle.std.specs.Prelude.{slice_index_or, nat_lt}
use Rattle.std.specs.Cmp.{IsStrictWeakOrder}
use Rattle.std.specs.List.{filter}
use Rattle.std.specs.List.Sorted.{IsSortedBy, ties}

first_same : {X : Type 0} (b c : Bool) (x y : X) (xs ys : List X) → b ≡ true → c ≡ true → cond b (x ∷ xs) xs ≡ cond c (y ∷ ys) ys → x ≡ y
first_same true true x y xs ys p q e = cc
first_same true false x y xs ys p q e = absurd cc
first_same false c x y xs ys p q e = absurd cc

others_same : {X : Type 0} (b : Bool) (x : X) (xs ys : List X) → cond b (x ∷ xs) xs ≡ cond b (x ∷ ys) ys → xs ≡ ys
others_same true x xs ys e = cc
others_same false x xs ys e = e

module _ {X : Type 0} (lt : X → X → Bool) where
  -- none of them is less than this
  abbrev pub NoneBelow : X → List X → Type 0
  NoneBelow y [] = Unit {0}
  NoneBelow y (x ∷ xs) = (lt x y ≡ false) × NoneBelow y xs

  -- none is less than one before it
  abbrev pub Rises : List X → Type 0
  Rises [] = Unit {0}
  Rises (x ∷ xs) = NoneBelow x xs × Rises xs

  -- an item before the first that it is less than
  abbrev pub put : X → List X → List X
  put c [] = c ∷ []
  put c (x ∷ xs) = cond (lt c x) (c ∷ x ∷ xs) (x ∷ put c xs)

  -- The second rises, and what ties stands in it as in the first.
  pub record AreLined (items new : List X) : Type 0 where
    pub rises : Rises new
    pub same : (k : X) → filter (ties lt k) new ≡ filter (ties lt k) items

  module _ (o : IsStrictWeakOrder lt) where
    not_itself : (x : X) → lt x x ≡ false
    not_itself x = go (lt x x) refl
      where
        go : (b : Bool) → lt x x ≡ b → lt x x ≡ false
        go true e = o.one_way x x e
        go false e = e

    -- what is less than y is less than what y is not above
    less : (x y z : X) → lt x y ≡ true → lt z y ≡ false → lt x z ≡ true
    less x y z p q = go (lt x z) refl
      where
        go : (b : Bool) → lt x z ≡ b → lt x z ≡ true
        go true e = e
        go false e = absurd (true≢false (sym p ∙ o.chain x z y e q))

    none_ties : (k y : X) (xs : List X) → lt k y ≡ true → NoneBelow y xs → filter (ties lt k) xs ≡ []
    none_ties k y [] p h = refl
    none_ties k y (x ∷ xs) p h = let under : lt k x ≡ true = less k y x p h.0 in rw under (none_ties k y xs p h.1)

    weaker : (a b : X) (xs : List X) → lt b a ≡ false → NoneBelow b xs → NoneBelow a xs
    weaker a b [] p h = tt
    weaker a b (x ∷ xs) p h = (o.chain x b a h.0 p, weaker a b xs p h.1)

    ties_itself : (x : X) → ties lt x x ≡ true
    ties_itself x = let is : lt x x ≡ false = not_itself x in rw is refl

    -- two lists that rise and have the same items of each kind, in the same order, are the same

    no_first : (x : X) (xs : List X) → [] ≡ filter (ties lt x) (x ∷ xs) → ⊥
    no_first x xs e = go (ties lt x x) (ties_itself x) e
      where
        go : (b : Bool) → b ≡ true → [] ≡ cond b (x ∷ filter (ties lt x) xs) (filter (ties lt x) xs) → ⊥
        go true is f = absurd cc
        go false is f = absurd cc

    not_under : (x y : X) (xs ys : List X) → lt x y ≡ true → NoneBelow y ys → filter (ties lt x) (x ∷ xs) ≡ filter (ties lt x) (y ∷ ys) → ⊥
    not_under x y xs ys p h same = no_first x xs (sym (same ∙ none_ties x y (y ∷ ys) p (not_itself y, h)))

    pub alike : (xs ys : List X) → Rises xs → Rises ys → ((k : X) → filter (ties lt k) xs ≡ filter (ties lt k) ys) → xs ≡ ys
    alike [] [] r s same = refl
    alike [] (y ∷ ys) r s same = absurd (no_first y ys (same y))
    alike (x ∷ xs) [] r s same = absurd (no_first x xs (sym (same x)))
    alike (x ∷ xs) (y ∷ ys) r s same = by (alike xs ys r.1 s.1) (lt x y) (lt y x) refl refl
      where
        AreAlike : List X → List X → Type 0
        AreAlike xs ys = (k : X) → filter (ties lt k) xs ≡ filter (ties lt k) ys

        equal : (AreAlike xs ys → xs ≡ ys) → x ≡ y → x ∷ xs ≡ y ∷ ys
        equal next e =
            let again : (k : X) → filter (ties lt k) (x ∷ xs) ≡ filter (ties lt k) (x ∷ ys) = subst (λ z. (k : X) → filter (ties lt k) (x ∷ xs) ≡ filter (ties lt k) (z ∷ ys)) (sym e) same in
            ap (λ z. z ∷ xs) e ∙ ap (λ l. y ∷ l) (next (λ k. others_same (ties lt k x) x (filter (ties lt k) xs) (filter (ties lt k) ys) (again k)))

        by : (AreAlike xs ys → xs ≡ ys) → (b c : Bool) → lt x y ≡ b → lt y x ≡ c → x ∷ xs ≡ y ∷ ys
        by next true c p q = absurd (not_under x y xs ys p s.0 (same x))
        by next false true p q = absurd (not_under y x ys xs q r.0 (sym (same y)))
        by next false false p q =
            let tied : ties lt x y ≡ true = rw (p, q) refl in
            equal next (first_same (ties lt x x) (ties lt x y) x y (filter (ties lt x) xs) (filter (ties lt x) ys) (ties_itself x) tied (same x))

    -- one item is put in its place

    above_put : (y c : X) (xs : List X) → lt c y ≡ false → NoneBelow y xs → NoneBelow y (put c xs)
    above_put y c [] p h = (p, tt)
    above_put y c (x ∷ xs) p h = go (above_put y c xs p h.1) (lt c x)
      where
        go : NoneBelow y (put c xs) → (b : Bool) → NoneBelow y (cond b (c ∷ x ∷ xs) (x ∷ put c xs))
        go next true = (p, h)
        go next false = (h.0, next)

    pub put_rises : (c : X) (xs : List X) → Rises xs → Rises (put c xs)
    put_rises c [] r = (tt, tt)
    put_rises c (x ∷ xs) r = go (put_rises c xs r.1) (lt c x) refl
      where
        go : Rises (put c xs) → (b : Bool) → lt c x ≡ b → Rises (cond b (c ∷ x ∷ xs) (x ∷ put c xs))
        go next true p = ((o.one_way c x p, weaker c x xs (o.one_way c x p) r.0), r)
        go next false p = (above_put x c xs p r.0, next)

    -- what ties with an item that is less is less
    tied_under : (k c x : X) → ties lt k c ≡ true → lt c x ≡ true → lt k x ≡ true
    tied_under k c x t p = go (lt k c) (lt c k) (lt k x) refl refl t
      where
        go : (a b d : Bool) → lt c k ≡ b → lt k x ≡ d → (not a && not b) ≡ true → lt k x ≡ true
        go a b true q e u = e
        go false false false q e u = absurd (true≢false (sym (less c x k p e) ∙ q))
        go true b false q e u = absurd cc
        go false true false q e u = absurd cc

    pub put_filter : (k c : X) (xs : List X) → Rises xs → filter (ties lt k) (put c xs) ≡ filter (ties lt k) (xs ++ c ∷ [])
    put_filter k c [] r = refl
    put_filter k c (x ∷ xs) r = go (put_filter k c xs r.1) (lt c x) refl
      where
        first : (b : Bool) → ties lt k c ≡ b → lt c x ≡ true
            → cond b (c ∷ filter (ties lt k) (x ∷ xs)) (filter (ties lt k) (x ∷ xs)) ≡ filter (ties lt k) (x ∷ xs) ++ cond b (c ∷ []) []
        first true t p =
            let none : filter (ties lt k) (x ∷ xs) ≡ [] = none_ties k x (x ∷ xs) (tied_under k c x t p) (not_itself x, r.0) in
            rw none refl
        first false t p = sym (append-nil (filter (ties lt k) (x ∷ xs)))

        go : filter (ties lt k) (put c xs) ≡ filter (ties lt k) (xs ++ c ∷ []) → (b : Bool) → lt c x ≡ b
            → filter (ties lt k) (cond b (c ∷ x ∷ xs) (x ∷ put c xs)) ≡ filter (ties lt k) ((x ∷ xs) ++ c ∷ [])
        go next true p = first (ties lt k c) refl p ∙ sym (filter-append (ties lt k) (x ∷ xs) (c ∷ []))
        go next false p = ap (λ l. cond (ties lt k x) (x ∷ l) l) next

    -- so one more is lined up with those that were
    pub one_more : (c : X) (xs rest : List X) → Rises xs → (k : X) → filter (ties lt k) (put c xs ++ rest) ≡ filter (ties lt k) (xs ++ c ∷ rest)
    one_more c xs rest r k =
        filter-append (ties lt k) (put c xs) rest
        ∙ (ap (λ l. l ++ filter (ties lt k) rest) (put_filter k c xs r)
        ∙ (sym (filter-append (ties lt k) (xs ++ c ∷ []) rest) ∙ ap (filter (ties lt k)) (append_assoc xs (c ∷ []) rest)))

    -- what a sort ensures

    above_from : (y : X) (xs : List X) → ((j : ℕ) (d : X) → j < length xs → lt (slice_index_or xs j d) y ≡ false) → NoneBelow y xs
    above_from y [] h = tt
    above_from y (x ∷ xs) h = (h 0 x (omega arith), above_from y xs (λ j d l. h (suc j) d (omega arith)))

    rises_far : (xs : List X) → ((i j : ℕ) (d : X) → i ≤ j → j < length xs → lt (slice_index_or xs j d) (slice_index_or xs i d) ≡ false) → Rises xs
    rises_far [] h = tt
    rises_far (x ∷ xs) h = (
      above_from x xs (λ j d l. h 0 (suc j) d (omega arith) (omega arith)),
      rises_far xs (λ i j d le l. h (suc i) (suc j) d (omega arith) (omega arith)),
    )

    pub rises_from : (xs : List X) → IsSortedBy lt xs → Rises xs
    rises_from xs up = rises_far xs (sorted_far lt o xs up)

-- By a number first, and then by an order.
abbrev pub lexical : {X : Type 0} → (X → ℕ) → (X → X → Bool) → X → X → Bool
lexical n lt x y = cond (n x == n y) (lt x y) (nat_lt (n x) (n y))

pub lexical_order : {X : Type 0} (n : X → ℕ) (lt : X → X → Bool) → IsStrictWeakOrder lt → IsStrictWeakOrder (lexical n lt)
lexical_order {X} n lt o = record { one_way = λ x y e. one x y (n x == n y) refl e; chain = λ x y z e f. two x y z (n x == n y) (n y == n z) refl refl e f }
  where
    one : (x y : X) (b : Bool) → (n x == n y) ≡ b → cond b (lt x y) (nat_lt (n x) (n y)) ≡ true → lexical n lt y x ≡ false
    one x y true p e = (let same : (n y == n x) ≡ true = grind (arith, nat_tests) in rw same (o.one_way x y e))
    one x y false p e =
        let same : (n y == n x) ≡ false = grind (arith, nat_tests) in
        let not_less : nat_lt (n y) (n x) ≡ false = grind (arith, nat_tests) in
        rw (same, not_less) refl

    two : (x y z : X) (b c : Bool) → (n x == n y) ≡ b → (n y == n z) ≡ c → cond b (lt x y) (nat_lt (n x) (n y)) ≡ false → cond c (lt y z) (nat_lt (n y) (n z)) ≡ false → lexical n lt x z ≡ false
    two x y z true true p q e f = (let same : (n x == n z) ≡ true = grind (arith, nat_tests) in rw same (o.chain x y z e f))
    two x y z true false p q e f =
        let same : (n x == n z) ≡ false = grind (arith, nat_tests) in
        let not_less : nat_lt (n x) (n z) ≡ false = grind (arith, nat_tests) in
        rw (same, not_less) refl
    two x y z false true p q e f =
        let same : (n x == n z) ≡ false = grind (arith, nat_tests) in
        let not_less : nat_lt (n x) (n z) ≡ false = grind (arith, nat_tests) in
        rw (same, not_less) refl
    two x y z false false p q e f =
        let same : (n x == n z) ≡ false = grind (arith, nat_tests) in
        let not_less : nat_lt (n x) (n z) ≡ false = grind (arith, nat_tests) in
        rw (same, not_less) refl
