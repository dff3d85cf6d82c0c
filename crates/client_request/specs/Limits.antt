-- A value cut into limits.
use Rattle.std.specs.Prelude.{◌≡◌, IsTrue}
use Rattle.std.specs.Ordering.{is_le}
use Rattle.std.specs.declared.cmp.Ordering.{Ordering}
use Rattle.std.specs.declared.cmp.Ordering.TheVariants.{Less, Equal, Greater}

module _ {T : Type 0} where
  abbrev pub lesser_by : Ordering → T → T → T
  lesser_by Less value greatest = value
  lesser_by Equal value greatest = greatest
  lesser_by Greater value greatest = greatest

  abbrev pub greater_by : Ordering → T → T → T
  greater_by Less value least = least
  greater_by Equal value least = value
  greater_by Greater value least = value

  module _ (cmp : T → T → Ordering) where
    -- the lesser of a value and the greatest one
    abbrev pub at_most : T → T → T
    at_most greatest value = lesser_by (cmp value greatest) value greatest

    -- the greater of a value and the least one
    abbrev pub at_least : T → T → T
    at_least least value = greater_by (cmp value least) value least

    abbrev pub limited : T → T → T → T
    limited least greatest value = at_least least (at_most greatest value)

    abbrev pub IsAtMost : T → T → Type 0
    IsAtMost x y = IsTrue (is_le (cmp x y))

    -- What is cut into limits lies between them, and stays what it is when it is cut again. Of a least value behind the
    -- greatest one, nothing but the least value is left. Where two limits tie in the order and are not the same, a value
    -- that is cut again is only known to tie.
    pub record LimitLaws : Type 0 where
      pub above_least : (least greatest value : T) → IsAtMost least (limited least greatest value)
      pub below_greatest : (least greatest value : T) → IsAtMost least greatest → IsAtMost (limited least greatest value) greatest
      pub between_stays : (least greatest value : T) → IsAtMost least value → cmp value greatest ≡ Less → limited least greatest value ≡ value
      pub swapped : (least greatest value : T) → cmp least greatest ≡ Greater → limited least greatest value ≡ least
      pub keeps_order : (least greatest x y : T) → IsAtMost x y → IsAtMost (limited least greatest x) (limited least greatest y)
      pub tied_again : (least greatest value : T) → cmp (limited least greatest (limited least greatest value)) (limited least greatest value) ≡ Equal
      pub idempotent : (least greatest value : T) → (cmp least greatest ≡ Equal → least ≡ greatest)
          → limited least greatest (limited least greatest value) ≡ limited least greatest value
