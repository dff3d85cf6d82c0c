-- What is a zone.
use Rattle.std.specs.Prelude.{◌≡◌, ℕ, true, false, List, Some}
use Rattle.dns_names.specs.Name.{Labels, lowered, same_name, spelling}
use Rattle.zone_reading.specs.Readings.{IsTransfer}
use Rattle.zone_reading.specs.declared.steps.Update.{Update}
use Rattle.zone_reading.specs.declared.steps.XfrKind.{XfrKind}
use Rattle.zone_records.specs.Folding.{Applies, Zone, has}
use Rattle.zone_records.specs.Records.{is_meta, is_same, is_soa, is_within}
use Rattle.zone_records.specs.Transfers.{Entries, all_entries}
use Rattle.zone_records.specs.declared.record.ZoneRecord.{ZoneRecord}

-- A zone with this apex may hold the record: it is of the class IN and of no meta type, and its owner is the apex or below it.
pub record IsHeld (apex : Labels) (r : ZoneRecord) : Type 0 where
  pub class : r.class.0 ≡ 1
  pub rtype : is_meta r.rtype.0 ≡ false
  pub owner : Labels
  pub owner_is : r.owner ≡ spelling (lowered owner)
  pub within : is_within apex owner ≡ true

-- the SOA of an apex
pub record IsSoaOf (apex : Labels) (r : ZoneRecord) : Type 0 where
  pub soa : is_soa r ≡ true
  pub owner : Labels
  pub owner_is : r.owner ≡ spelling (lowered owner)
  pub is_apex : same_name owner apex ≡ true

abbrev pub AllHeld : Zone → Type 0
AllHeld zone = (r : ZoneRecord) → has zone.records r ≡ true → IsHeld zone.apex r

-- A zone has one SOA, of its apex, and each record is one that it may hold.
pub record IsZone (zone : Zone) : Type 0 where
  pub soa : ZoneRecord
  pub soa_is : IsSoaOf zone.apex soa
  pub has_soa : has zone.records soa ≡ true
  pub sole : (r : ZoneRecord) → is_soa r ≡ true → has zone.records r ≡ true → r ≡ soa
  pub held : AllHeld zone

-- A transfer makes a zone of nothing, and of a zone.
abbrev pub HeldLaw : Type 0
HeldLaw = (kind : XfrKind) (messages : List (List ℕ)) (es : Entries) (us : List (Update ZoneRecord)) (old new : Zone) (misfit : ℕ) → all_entries old.apex messages ≡ Some es
    → IsTransfer is_same kind es us → Applies old us new misfit → AllHeld old → IsZone new
