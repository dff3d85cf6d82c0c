-- What a value that is cut into limits is.
use Rattle.std.proofs.Common.{◌≡◌, true, false, refl, sym, ap, ◌∙◌, subst, ◌⊎◌, inl, inr}
use Rattle.std.specs.Ordering.{is_le, is_gt, ordering_reverse}
use Rattle.std.specs.Cmp.{IsTotalOrder}
use Rattle.std.proofs.lemmas.Cmp.{upto, tied_itself}
use Rattle.std.specs.declared.cmp.Ordering.{Ordering}
use Rattle.std.specs.declared.cmp.Ordering.TheVariants.{Less, Equal, Greater}
use Rattle.client_request.specs.Limits.{lesser_by, greater_by, limited, at_most, at_least, IsAtMost, LimitLaws}

not_greater : (r : Ordering) → is_le r ≡ true → is_gt r ≡ false
not_greater Less h = refl
not_greater Equal h = refl
not_greater Greater h = absurd cc

is_at_most : (r : Ordering) → is_gt r ≡ false → is_le r ≡ true
is_at_most Less h = refl
is_at_most Equal h = refl
is_at_most Greater h = absurd cc

one_way : (r s : Ordering) → s ≡ ordering_reverse r → (r ≡ Less) ⊎ (is_le s ≡ true)
one_way Less s back = inl refl
one_way Equal s back = inr (ap is_le back)
one_way Greater s back = inr (ap is_le back)

both_ways : (r s : Ordering) → s ≡ ordering_reverse r → is_le r ≡ true → is_le s ≡ true → r ≡ Equal
both_ways Less Less back h k = absurd cc
both_ways Less Equal back h k = absurd cc
both_ways Less Greater back h k = absurd cc
both_ways Equal s back h k = refl
both_ways Greater s back h k = absurd cc

module _ {T : Type 0} where
  lesser_is : (r : Ordering) (x y : T) → ((r ≡ Less) × (lesser_by r x y ≡ x)) ⊎ ((is_le (ordering_reverse r) ≡ true) × (lesser_by r x y ≡ y))
  lesser_is Less x y = inl (refl, refl)
  lesser_is Equal x y = inr (refl, refl)
  lesser_is Greater x y = inr (refl, refl)

  greater_is : (r : Ordering) (x y : T) → ((r ≡ Less) × (greater_by r x y ≡ y)) ⊎ ((is_le (ordering_reverse r) ≡ true) × (greater_by r x y ≡ x))
  greater_is Less x y = inl (refl, refl)
  greater_is Equal x y = inr (refl, refl)
  greater_is Greater x y = inr (refl, refl)

module _ {T : Type 0} {cmp : T → T → Ordering} (order : IsTotalOrder cmp) where
  itself : (x : T) → IsAtMost cmp x x
  itself x = ap is_le (tied_itself order x)

  follows : (x y z : T) → IsAtMost cmp x y → IsAtMost cmp y z → IsAtMost cmp x z
  follows x y z first second =
      is_at_most (cmp x z) (upto order x y z (not_greater (cmp x y) first) (not_greater (cmp y z) second))

  apart : (x y : T) → cmp x y ≡ Less → IsAtMost cmp y x → ⊥
  apart x y less back =
      let turned : cmp y x ≡ Greater = order.antisymm y x ∙ ap ordering_reverse less in
      let not : false ≡ true = sym (ap is_le turned) ∙ back in
      absurd cc

  tied : (x y : T) → IsAtMost cmp x y → IsAtMost cmp y x → cmp x y ≡ Equal
  tied x y first second = both_ways (cmp x y) (cmp y x) (order.antisymm y x) first second

  at_most_is : (greatest value : T) → ((cmp value greatest ≡ Less) × (at_most cmp greatest value ≡ value)) ⊎ (IsAtMost cmp greatest value × (at_most cmp greatest value ≡ greatest))
  at_most_is greatest value =
      elim (lesser_is (cmp value greatest) value greatest) [
        | inl p ↦ inl p
        | inr p ↦ inr (ap is_le (order.antisymm greatest value) ∙ p.0, p.1)
      ]

  at_least_is : (least value : T) → ((cmp value least ≡ Less) × (at_least cmp least value ≡ least)) ⊎ (IsAtMost cmp least value × (at_least cmp least value ≡ value))
  at_least_is least value =
      elim (greater_is (cmp value least) value least) [
        | inl p ↦ inl p
        | inr p ↦ inr (ap is_le (order.antisymm least value) ∙ p.0, p.1)
      ]

  above : (least value : T) → IsAtMost cmp least (at_least cmp least value)
  above least value =
      elim (at_least_is least value) [
        | inl p ↦ rw p.1 (itself least)
        | inr p ↦ rw p.1 p.0
      ]

  below : (greatest value : T) → IsAtMost cmp (at_most cmp greatest value) greatest
  below greatest value =
      elim (at_most_is greatest value) [
        | inl p ↦ rw p.1 (ap is_le p.0)
        | inr p ↦ rw p.1 (itself greatest)
      ]

  below_greatest : (least greatest value : T) → IsAtMost cmp least greatest → IsAtMost cmp (limited cmp least greatest value) greatest
  below_greatest least greatest value right =
      elim (at_least_is least (at_most cmp greatest value)) [
        | inl p ↦ rw p.1 right
        | inr p ↦ rw p.1 (below greatest value)
      ]

  between_stays : (least greatest value : T) → IsAtMost cmp least value → cmp value greatest ≡ Less → limited cmp least greatest value ≡ value
  between_stays least greatest value first second =
      elim (at_most_is greatest value) [
        | inl p ↦
            elim (at_least_is least value) [
              | inl q ↦ absurd (apart value least q.0 first)
              | inr q ↦ ap (at_least cmp least) p.1 ∙ q.1
            ]
        | inr p ↦ absurd (apart value greatest second p.0)
      ]

  swapped : (least greatest value : T) → cmp greatest least ≡ Less → limited cmp least greatest value ≡ least
  swapped least greatest value wrong =
      elim (at_least_is least (at_most cmp greatest value)) [
        | inl p ↦ p.1
        | inr p ↦ absurd (apart greatest least wrong (follows least (at_most cmp greatest value) greatest p.0 (below greatest value)))
      ]

  greatest_stays : (least greatest value : T) → IsAtMost cmp least greatest → IsAtMost cmp greatest value → limited cmp least greatest value ≡ greatest
  greatest_stays least greatest value right over =
      elim (at_most_is greatest value) [
        | inl p ↦ absurd (apart value greatest p.0 over)
        | inr p ↦
            elim (at_least_is least greatest) [
              | inl q ↦ absurd (apart greatest least q.0 right)
              | inr q ↦ ap (at_least cmp least) p.1 ∙ q.1
            ]
      ]

  at_most_keeps : (greatest x y : T) → IsAtMost cmp x y → IsAtMost cmp (at_most cmp greatest x) (at_most cmp greatest y)
  at_most_keeps greatest x y h =
      elim (at_most_is greatest y) [
        | inl p ↦
            elim (at_most_is greatest x) [
              | inl q ↦ rw (p.1, q.1) h
              | inr q ↦ rw (p.1, q.1) (follows greatest x y q.0 h)
            ]
        | inr p ↦ rw p.1 (below greatest x)
      ]

  at_least_keeps : (least x y : T) → IsAtMost cmp x y → IsAtMost cmp (at_least cmp least x) (at_least cmp least y)
  at_least_keeps least x y h =
      elim (at_least_is least x) [
        | inl p ↦ rw p.1 (above least y)
        | inr p ↦
            elim (at_least_is least y) [
              | inl q ↦ rw (p.1, q.1) (follows x y least h (ap is_le q.0))
              | inr q ↦ rw (p.1, q.1) h
            ]
      ]

  tied_again : (least greatest value : T) → cmp (limited cmp least greatest (limited cmp least greatest value)) (limited cmp least greatest value) ≡ Equal
  tied_again least greatest value =
      let once : T = limited cmp least greatest value in
      elim (one_way (cmp greatest least) (cmp least greatest) (order.antisymm least greatest)) [
        | inl wrong ↦ rw (swapped least greatest once wrong, swapped least greatest value wrong) (tied_itself order least)
        | inr right ↦
            elim (at_most_is greatest once) [
              | inl p ↦ rw (between_stays least greatest once (above least (at_most cmp greatest value)) p.0) (tied_itself order once)
              | inr p ↦ rw (greatest_stays least greatest once right p.0) (tied greatest once p.0 (below_greatest least greatest value right))
            ]
      ]

  -- at the greatest value, it is that one
  at_greatest : (least greatest value : T) → (cmp least greatest ≡ Equal → least ≡ greatest) → IsAtMost cmp least greatest → IsAtMost cmp greatest (limited cmp least greatest value)
      → greatest ≡ limited cmp least greatest value
  at_greatest least greatest value one right over =
      elim (at_least_is least (at_most cmp greatest value)) [
        | inl p ↦
            let back : IsAtMost cmp greatest least = subst (λ w. IsAtMost cmp greatest w) p.1 over in
            sym (one (tied least greatest right back)) ∙ sym p.1
        | inr p ↦
            elim (at_most_is greatest value) [
              | inl q ↦ absurd (apart value greatest q.0 (subst (λ w. IsAtMost cmp greatest w) (p.1 ∙ q.1) over))
              | inr q ↦ sym (p.1 ∙ q.1)
            ]
      ]

  idempotent : (least greatest value : T) → (cmp least greatest ≡ Equal → least ≡ greatest) → limited cmp least greatest (limited cmp least greatest value) ≡ limited cmp least greatest value
  idempotent least greatest value one =
      let once : T = limited cmp least greatest value in
      elim (one_way (cmp greatest least) (cmp least greatest) (order.antisymm least greatest)) [
        | inl wrong ↦ swapped least greatest once wrong ∙ sym (swapped least greatest value wrong)
        | inr right ↦
            elim (at_most_is greatest once) [
              | inl p ↦ between_stays least greatest once (above least (at_most cmp greatest value)) p.0
              | inr p ↦ greatest_stays least greatest once right p.0 ∙ at_greatest least greatest value one right p.0
            ]
      ]

  pub limit_laws : LimitLaws cmp
  limit_laws = record {
    above_least = λ least greatest value. above least (at_most cmp greatest value);
    below_greatest = below_greatest;
    between_stays = between_stays;
    swapped = λ least greatest value wrong. swapped least greatest value (order.antisymm greatest least ∙ ap ordering_reverse wrong);
    keeps_order = λ least greatest x y h. at_least_keeps least (at_most cmp greatest x) (at_most cmp greatest y) (at_most_keeps greatest x y h);
    tied_again = tied_again;
    idempotent = idempotent;
  }
