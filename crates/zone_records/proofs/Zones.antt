-- Zones with the same records.
use Rattle.std.proofs.Common.{◌≡◌, ℕ, List, [], sym, subst, ◌∙◌}
use Rattle.std.specs.List.Sorted.{IsStrictlySortedBy}
use Rattle.std.proofs.lemmas.Map.Lookups.{btree_set_from_contains}
use Rattle.zone_reading.specs.declared.steps.Update.{Update}
use Rattle.zone_records.specs.Folding.{Applies, Zone, ZonesLaw, folded, has}
use Rattle.zone_records.specs.Records.{record_cmp, record_total}
use Rattle.zone_records.specs.declared.record.ZoneRecord.{ZoneRecord}
use Rattle.zone_records.proofs.Comparing.{equal_records}

listed : (xs ys : List ZoneRecord) → IsStrictlySortedBy record_cmp xs → IsStrictlySortedBy record_cmp ys → ((r : ZoneRecord) → has xs r ≡ has ys r) → xs ≡ ys
listed xs ys a b h = btree_set_from_contains record_total (record { keys = xs }) (record { keys = ys }) a b h equal_records

led : (old other new end : Zone) (us vs : List (Update ZoneRecord)) (m n : ℕ) → Applies old us new m → Applies other vs end n
    → IsStrictlySortedBy record_cmp new.records → IsStrictlySortedBy record_cmp end.records
    → ((r : ZoneRecord) → folded us (has old.records) r ≡ folded vs (has other.records) r) → new.records ≡ end.records
led old other new end us vs m n a b s t h = listed new.records end.records s t (λ r. a.records r ∙ (h r ∙ sym (b.records r)))

pub zones : ZonesLaw
zones = record { listed = listed; led = led }

pub nothing_sorted : (xs : List ZoneRecord) → xs ≡ [] → IsStrictlySortedBy record_cmp xs
unfolding IsStrictlySortedBy
nothing_sorted xs e = subst (IsStrictlySortedBy record_cmp) (sym e) tt
