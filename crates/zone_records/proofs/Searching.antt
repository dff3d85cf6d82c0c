-- A list in order has a record exactly if a search by halves finds it.
use Rattle.std.proofs.Common.{◌≡◌, ℕ, ◌<◌, ◌≤◌, ◌+◌, true, false, List, length, get_or, Result, Ok, Err, refl, sym, ap, ◌∙◌, arith, inl, inr}
use Rattle.std.specs.Prelude.{is_ok}
use Rattle.std.proofs.lemmas.Bool.{cases_lt}
use Rattle.std.proofs.lemmas.List.Folds.{list_any_at, list_any_none}
use Rattle.std.proofs.lemmas.List.Sorted.{searchable_from_sorted}
use Rattle.std.proofs.lemmas.Map.Keys.{Less-from_sorted}
use Rattle.std.specs.List.{HoldsAt}
use Rattle.std.specs.List.Sorted.{IsBinarySearchResult, IsNonDecreasingBy, IsPartitionPoint, IsSearchInRange, IsStrictlySortedBy}
use Rattle.std.specs.declared.cmp.Ordering.{Ordering}
use Rattle.std.specs.declared.cmp.Ordering.TheVariants.{Less, Equal, Greater}
use Rattle.std.specs.Ordering.{is_eq, is_lt, ordering_index, ordering_reverse}
use Rattle.zone_records.specs.Folding.{has}
use Rattle.zone_records.specs.Records.{record_cmp, record_total, is_same}
use Rattle.zone_records.specs.declared.record.ZoneRecord.{ZoneRecord}
use Rattle.zone_records.proofs.Folds.{same_both_ways}

is_found : (base : List ZoneRecord) (x : ZoneRecord) (i : ℕ) → i < length base → HoldsAt (λ y. record_cmp y x ≡ Equal) base i → has base x ≡ true
is_found base x i l h = list_any_at (is_same x) base i x l (same_both_ways x (get_or base i x) ∙ ap is_eq (h x))

not_same : (x y : ZoneRecord) (o : Ordering) → record_cmp y x ≡ o → is_eq o ≡ false → is_same x y ≡ false
not_same x y o e n = same_both_ways x y ∙ (ap is_eq e ∙ n)

in_order : (base : List ZoneRecord) → IsStrictlySortedBy record_cmp base → (k : ℕ) (d : ZoneRecord) → 0 ≤ k → k + 1 < length base → is_lt (record_cmp (get_or base (k + 1) d) (get_or base k d)) ≡ false
in_order base sorted k d z l =
    ap is_lt (record_total.antisymm (get_or base (k + 1) d) (get_or base k d))
    ∙ ap (λ (o : Ordering). is_lt (ordering_reverse o)) (Less-from_sorted record_cmp base k (k + 1) d sorted (omega arith) l)

is_missed : (base : List ZoneRecord) (x : ZoneRecord) (i : ℕ) → IsStrictlySortedBy record_cmp base
    → (IsNonDecreasingBy (λ y. ordering_index (record_cmp y x)) base → IsPartitionPoint (λ y. record_cmp y x ≡ Less) (λ y. record_cmp y x ≡ Greater) base i) → has base x ≡ false
is_missed base x i sorted h =
    let parted = h (searchable_from_sorted record_total (λ (y : ZoneRecord). y) base x (in_order base sorted)) in
    list_any_none (is_same x) base (λ k d l. elim (cases_lt k i) [
      | inl less ↦ not_same x (get_or base k d) Less (parted.0 k d (omega arith) less) refl
      | inr more ↦ not_same x (get_or base k d) Greater (parted.1 k d more l) refl
    ])

pub searched : (base : List ZoneRecord) (x : ZoneRecord) (r : Result ℕ ℕ) → IsStrictlySortedBy record_cmp base → IsSearchInRange r (length base) → IsBinarySearchResult (λ y. record_cmp y x) base r → is_ok r ≡ has base x
searched base x (Ok i) sorted l h = sym (is_found base x i l h)
searched base x (Err i) sorted l h = sym (is_missed base x i sorted h)
