-- What updates do to a zone.
use Rattle.std.specs.Prelude.{◌≡◌, ℕ, ◌+◌, ◌==◌, not, ◌&&◌, ◌||◌, Bool, true, false, if◌then◌else◌, List, [], ◌∷◌, ◌++◌, Option, Some, None, option_map, Result, Ok, Err}
use Rattle.std.specs.List.{list_any}
use Rattle.std.specs.List.Sorted.{IsStrictlySortedBy}
use Rattle.dns_names.specs.Name.{Labels}
use Rattle.zone_reading.specs.declared.steps.Update.{Update}
use Rattle.zone_reading.specs.declared.steps.Update.TheVariants.{DeleteAllRecords, BeginBatchDelete, DeleteRecord, BeginBatchAdd, AddRecord, Finished}
use Rattle.zone_records.specs.Records.{record_cmp, is_same, is_soa}
use Rattle.zone_records.specs.declared.record.ZoneRecord.{ZoneRecord}
use Rattle.zone_records.specs.declared.zone.ApplyFault.{ApplyFault}
use Rattle.zone_records.specs.declared.zone.ApplyFault.TheVariants as fault

-- ---- which records there are: a set of records, and what updates make of it

abbrev pub Records : Type 0
Records = ZoneRecord → Bool

-- what one update leaves
abbrev pub folded_one : Update ZoneRecord → Records → Records
folded_one DeleteAllRecords rs = λ r. false
folded_one (BeginBatchDelete _ _) rs = λ r. not (is_soa r) && rs r
folded_one (DeleteRecord gone) rs = λ r. not (is_same gone r) && rs r
folded_one (BeginBatchAdd _ soa) rs = λ r. is_same soa r || rs r
folded_one (AddRecord new) rs = λ r. is_same new r || rs r
folded_one (Finished _ soa) rs = λ r. is_same soa r || (not (is_soa r) && rs r)

abbrev pub folded : List (Update ZoneRecord) → Records → Records
folded [] rs = rs
folded (u ∷ us) rs = folded us (folded_one u rs)

-- A record that is no SOA is to be deleted and isn't there, or to be added and is.
abbrev pub misses : Update ZoneRecord → Records → Bool
misses (DeleteRecord gone) rs = not (is_soa gone) && not (rs gone)
misses (AddRecord new) rs = not (is_soa new) && rs new
misses DeleteAllRecords rs = false
misses (BeginBatchDelete _ _) rs = false
misses (BeginBatchAdd _ _) rs = false
misses (Finished _ _) rs = false

-- how often that is so
abbrev pub missing : List (Update ZoneRecord) → Records → ℕ
missing [] rs = 0
missing (u ∷ us) rs = (if misses u rs then 1 else 0) + missing us (folded_one u rs)

-- The whole zone comes.
abbrev pub is_whole : List (Update ZoneRecord) → Bool
is_whole (DeleteAllRecords ∷ us) = true
is_whole us = false

-- how often changes do not fit the records that they meet: a whole zone always does
abbrev pub misfits : List (Update ZoneRecord) → Records → ℕ
misfits us rs = if is_whole us then 0 else missing us rs

-- ---- serials

-- A batch meets a serial.
abbrev pub is_met : Option ℕ → ℕ → Bool
is_met None got = false
is_met (Some have) got = have == got

abbrev pub wrong_serial : Option ℕ → ℕ → ApplyFault
wrong_serial have got = fault.WrongSerial (option_map (λ n. record { 0 = n }) have) (record { 0 = got })

-- The first batch that deletes from another serial than it meets: that of the last addition before it, else the zone's.
abbrev pub first_wrong : Option ℕ → List (Update ZoneRecord) → Option ApplyFault
first_wrong have [] = None
first_wrong have (BeginBatchDelete got _ ∷ us) = if is_met have got then first_wrong have us else Some (wrong_serial have got)
first_wrong have (BeginBatchAdd serial _ ∷ us) = first_wrong (Some serial) us
first_wrong have (DeleteAllRecords ∷ us) = first_wrong have us
first_wrong have (DeleteRecord _ ∷ us) = first_wrong have us
first_wrong have (AddRecord _ ∷ us) = first_wrong have us
first_wrong have (Finished _ _ ∷ us) = first_wrong have us

-- the serial of an update that ends a transfer
abbrev pub end_serial : Update ZoneRecord → Option ℕ
end_serial (Finished serial _) = Some serial
end_serial DeleteAllRecords = None
end_serial (BeginBatchDelete _ _) = None
end_serial (DeleteRecord _) = None
end_serial (BeginBatchAdd _ _) = None
end_serial (AddRecord _) = None

-- the serial of the last update, where it ends a transfer
abbrev pub last_serial : List (Update ZoneRecord) → Option ℕ
last_serial [] = None
last_serial (u ∷ []) = end_serial u
last_serial (_ ∷ u ∷ us) = last_serial (u ∷ us)

abbrev pub serial_or_unfinished : Option ℕ → Result ℕ ApplyFault
serial_or_unfinished None = Err fault.Unfinished
serial_or_unfinished (Some serial) = Ok serial

abbrev pub serial_unless : Option ApplyFault → Option ℕ → Result ℕ ApplyFault
serial_unless (Some wrong) last = Err wrong
serial_unless None last = serial_or_unfinished last

-- the serial that updates lead to, or why they are refused
abbrev pub checked : Option ℕ → List (Update ZoneRecord) → Result ℕ ApplyFault
checked have us = serial_unless (first_wrong have us) (last_serial us)

abbrev pub ok_unless : Option ApplyFault → Result (Unit {0}) ApplyFault
ok_unless None = Ok tt
ok_unless (Some wrong) = Err wrong

-- The last update is taken off, where it ends a transfer.
abbrev pub TakesEnd : (old : List (Update ZoneRecord)) → Option (ℕ × ZoneRecord) → (new : List (Update ZoneRecord)) → Type 0
TakesEnd old None new = last_serial old ≡ None
TakesEnd old (Some end) new = old ≡ new ++ Finished end.0 end.1 ∷ []

-- ---- zones

pub record Zone : Type 0 where
  pub apex : Labels
  pub serial : Option ℕ
  pub records : List ZoneRecord

abbrev pub empty_zone : Labels → Zone
empty_zone apex = record { apex = apex; serial = None; records = [] }

-- the records of a list as a set
abbrev pub has : List ZoneRecord → Records
has rs r = list_any (is_same r) rs

-- The new zone has what updates make of the old one's records and the serial of their end; so many changes did not fit the records.
pub record Applies (old : Zone) (us : List (Update ZoneRecord)) (new : Zone) (count : ℕ) : Type 0 where
  pub apex : new.apex ≡ old.apex
  pub serial : ℕ
  pub leads : checked old.serial us ≡ Ok serial
  pub has_serial : new.serial ≡ Some serial
  pub records : (r : ZoneRecord) → has new.records r ≡ folded us (has old.records) r
  pub missed : count ≡ misfits us (has old.records)

-- Sorted lists of the same records are the same list, so zones to which updates lead have the same records wherever these are the same sets.
pub record ZonesLaw : Type 0 where
  pub listed : (xs ys : List ZoneRecord) → IsStrictlySortedBy record_cmp xs → IsStrictlySortedBy record_cmp ys → ((r : ZoneRecord) → has xs r ≡ has ys r) → xs ≡ ys
  pub led : (old other new end : Zone) (us vs : List (Update ZoneRecord)) (m n : ℕ) → Applies old us new m → Applies other vs end n
      → IsStrictlySortedBy record_cmp new.records → IsStrictlySortedBy record_cmp end.records
      → ((r : ZoneRecord) → folded us (has old.records) r ≡ folded vs (has other.records) r) → new.records ≡ end.records
