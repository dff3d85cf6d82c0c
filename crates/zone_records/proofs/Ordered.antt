-- Records that are sorted, and then each kept once.
use Rattle.std.proofs.Common.{◌≡◌, Bool, true, false, List, [], ◌∷◌, refl, sym, ap, subst, ◌∙◌}
use Rattle.std.specs.Prelude.{◌||◌, cond}
use Rattle.std.specs.List.{dedup, dedup_from}
use Rattle.std.specs.List.Retain.{IsFiltered, DiffersFromLast}
use Rattle.std.specs.List.Sorted.{IsPermutation, IsSorted, IsStrictlySortedBy}
use Rattle.std.proofs.lemmas.List.Filters.{dedup_is}
use Rattle.std.proofs.lemmas.List.Kept.{IsStrictlySortedBy-dedup}
use Rattle.std.proofs.lemmas.List.Sorted.{list_any-IsPermutation}
use Rattle.zone_records.specs.Folding.{has}
use Rattle.zone_records.specs.Records.{record_cmp, record_total, is_same}
use Rattle.zone_records.specs.declared.record.ZoneRecord.{ZoneRecord}
use Rattle.zone_records.proofs.Comparing.{same_is}

-- a record that is the same as one that is kept is left out
same_kept : (k x r : ZoneRecord) (b : Bool) → is_same x k ≡ b → (rest : List ZoneRecord) → has (dedup_from is_same k rest) r ≡ (is_same r k || has rest r)
    → has (dedup_from is_same x rest) r ≡ (is_same r x || has rest r)
    → has (cond b (dedup_from is_same k rest) (k ∷ dedup_from is_same x rest)) r ≡ (is_same r k || (is_same r x || has rest r))
same_kept k x r true e rest one other = one ∙ (again (is_same r k) (has rest r) ∙ ap (λ (y : ZoneRecord). is_same r k || (is_same r y || has rest r)) (sym (same_is x k e)))
  where
    again : (a b : Bool) → (a || b) ≡ (a || (a || b))
    again true b = refl
    again false b = refl
same_kept k x r false e rest one other = ap (λ (a : Bool). is_same r k || a) other

kept_from : (k : ZoneRecord) (xs : List ZoneRecord) (r : ZoneRecord) → has (dedup_from is_same k xs) r ≡ (is_same r k || has xs r)
kept_from k [] r = refl
kept_from k (x ∷ xs) r = same_kept k x r (is_same x k) refl xs (kept_from k xs r) (kept_from x xs r)

once : (xs : List ZoneRecord) (r : ZoneRecord) → has (dedup is_same xs) r ≡ has xs r
once [] r = refl
once (x ∷ xs) r = kept_from x xs r

pub same_records : (old mid new : List ZoneRecord) → IsPermutation old mid → IsFiltered (DiffersFromLast is_same) [] mid new → (r : ZoneRecord) → has new r ≡ has old r
same_records old mid new moved kept r =
    ap (λ (xs : List ZoneRecord). has xs r) (dedup_is is_same mid new kept) ∙ (once mid r ∙ sym (list_any-IsPermutation (is_same r) old mid moved))

pub is_ordered : (mid new : List ZoneRecord) → IsSorted record_cmp mid → IsFiltered (DiffersFromLast is_same) [] mid new → IsStrictlySortedBy record_cmp new
is_ordered mid new sorted kept = subst (IsStrictlySortedBy record_cmp) (sym (dedup_is is_same mid new kept)) (IsStrictlySortedBy-dedup record_total (λ x y. refl) mid sorted)
