-- The forms of a zone transfer, and the updates that each says: of the whole list of its records.
use Rattle.std.specs.Prelude.{◌≡◌, ◌≢◌, ℕ, ◌⊎◌, Bool, true, List, [], ◌∷◌, ◌++◌, map, Option, Some, None}
use Rattle.std.specs.List.{flat_map, AllByRecursion}
use Rattle.zone_reading.specs.declared.steps.XfrKind.{XfrKind}
use Rattle.zone_reading.specs.declared.steps.XfrKind.TheVariants.{Axfr, Ixfr}
use Rattle.zone_reading.specs.declared.steps.State.{State}
use Rattle.zone_reading.specs.declared.steps.State.TheVariants.{Begin, Done}
use Rattle.zone_reading.specs.declared.steps.Entry.{Entry}
use Rattle.zone_reading.specs.declared.steps.Entry.TheVariants.{Soa, Other}
use Rattle.zone_reading.specs.declared.steps.Update.{Update}
use Rattle.zone_reading.specs.declared.steps.Update.TheVariants.{DeleteAllRecords, BeginBatchDelete, BeginBatchAdd, Finished}
use Rattle.zone_reading.specs.Running.{additions, deletions, run}

-- a batch: an SOA, deleted records, an SOA, added records; none stands for a record outside the zone
pub record Batch (R : Type 0) : Type 0 where
  pub before : ℕ
  pub old : R
  pub deleted : List (Option R)
  pub after : ℕ
  pub new : R
  pub added : List (Option R)

module _ {R : Type 0} where
  -- the whole zone: an SOA, records that are none, and the same SOA again
  pub record IsWhole (same : R → R → Bool) (es : List (Entry R)) (us : List (Update R)) : Type 0 where
    pub serial : ℕ
    pub first : R
    pub between : List (Option R)
    pub last : R
    pub closes : same first last ≡ true
    pub entries : es ≡ Soa serial first ∷ (map Other between ++ Soa serial last ∷ [])
    pub updates : us ≡ DeleteAllRecords ∷ (flat_map additions between ++ Finished serial last ∷ [])

  abbrev pub entries_of : Batch R → List (Entry R)
  entries_of b = Soa b.before b.old ∷ (map Other b.deleted ++ Soa b.after b.new ∷ map Other b.added)

  abbrev pub updates_of : Batch R → List (Update R)
  updates_of b = BeginBatchDelete b.before b.old ∷ (flat_map deletions b.deleted ++ BeginBatchAdd b.after b.new ∷ flat_map additions b.added)

  -- the serial that batches lead to from one
  abbrev pub reached_by : ℕ → List (Batch R) → ℕ
  reached_by p [] = p
  reached_by p (b ∷ bs) = reached_by b.after bs

  -- changes: an SOA, one or more batches that begin with other serials, the last of which leads to the first SOA's serial, and an SOA with that serial
  pub record IsChanges (es : List (Entry R)) (us : List (Update R)) : Type 0 where
    pub serial : ℕ
    pub first : R
    pub batch : Batch R
    pub batches : List (Batch R)
    pub last : R
    pub others : AllByRecursion (λ b. b.before ≢ serial) (batch ∷ batches)
    pub reached : reached_by batch.after batches ≡ serial
    pub entries : es ≡ Soa serial first ∷ (flat_map entries_of (batch ∷ batches) ++ Soa serial last ∷ [])
    pub updates : us ≡ flat_map updates_of (batch ∷ batches) ++ Finished serial last ∷ []

  -- what was asked for may come whole; changes come only where they were asked for
  abbrev pub IsTransfer : (same : R → R → Bool) → XfrKind → List (Entry R) → List (Update R) → Type 0
  IsTransfer same Axfr es us = IsWhole same es us
  IsTransfer same Ixfr es us = IsWhole same es us ⊎ IsChanges es us

abbrev pub ReadingsAreRun : Type 0 → Type 0
ReadingsAreRun R = (same : R → R → Bool) (kind : XfrKind) (es : List (Entry R)) (us : List (Update R)) → IsTransfer same kind es us → run same kind Begin es ≡ Some (Done, us)

abbrev pub RunsAreReadings : Type 0 → Type 0
RunsAreReadings R = (same : R → R → Bool) (kind : XfrKind) (es : List (Entry R)) (us : List (Update R)) → run same kind Begin es ≡ Some (Done, us) → IsTransfer same kind es us

-- Records that the interpreter refuses begin no transfer,
abbrev pub RefusedBeginNone : Type 0 → Type 0
RefusedBeginNone R = (same : R → R → Bool) (kind : XfrKind) (es more : List (Entry R)) (us : List (Update R)) → run same kind Begin es ≡ None → IsTransfer same kind (es ++ more) us → ⊥

-- and records that it takes begin one.
pub record GoesOn {R : Type 0} (same : R → R → Bool) (kind : XfrKind) (es : List (Entry R)) : Type 0 where
  pub more : List (Entry R)
  pub updates : List (Update R)
  pub transfer : IsTransfer same kind (es ++ more) updates

abbrev pub TakenBeginOne : Type 0 → Type 0
TakenBeginOne R = (same : R → R → Bool) → ((r : R) → same r r ≡ true) → (kind : XfrKind) (es : List (Entry R)) (state : State R) (us : List (Update R)) → R → run same kind Begin es ≡ Some (state, us) → GoesOn same kind es
