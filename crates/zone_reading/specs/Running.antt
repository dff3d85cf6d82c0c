-- An interpreter of a zone transfer, record by record (RFC 5936 2.2, RFC 1995 4).
use Rattle.std.specs.Prelude.{◌≡◌, ℕ, ◌==◌, Bool, if◌then◌else◌, List, [], ◌∷◌, ◌++◌, Option, Some, None, option_and_then, option_map}
use Rattle.zone_reading.specs.declared.steps.XfrKind.{XfrKind}
use Rattle.zone_reading.specs.declared.steps.XfrKind.TheVariants.{Axfr, Ixfr}
use Rattle.zone_reading.specs.declared.steps.State.{State}
use Rattle.zone_reading.specs.declared.steps.State.TheVariants.{Begin, FirstSoa, Whole, Deleting, Adding, Done}
use Rattle.zone_reading.specs.declared.steps.Entry.{Entry}
use Rattle.zone_reading.specs.declared.steps.Entry.TheVariants.{Soa, Other}
use Rattle.zone_reading.specs.declared.steps.Update.{Update}
use Rattle.zone_reading.specs.declared.steps.Update.TheVariants.{DeleteAllRecords, BeginBatchDelete, DeleteRecord, BeginBatchAdd, AddRecord, Finished}

-- the state after a record, and the updates that it decides
abbrev pub Step : Type 0 → Type 0
Step R = Option (State R × List (Update R))

module _ {R : Type 0} where
  -- the updates of a record that is no SOA, where records are added and where they are deleted: one outside the zone has none
  abbrev pub additions : Option R → List (Update R)
  additions None = []
  additions (Some r) = AddRecord r ∷ []

  abbrev pub deletions : Option R → List (Update R)
  deletions None = []
  deletions (Some r) = DeleteRecord r ∷ []

  abbrev pub starts : XfrKind → (a : ℕ) → R → Step R
  starts Axfr a r = Some (Whole a r, DeleteAllRecords ∷ [])
  starts Ixfr a r = Some (FirstSoa a r, [])

  -- a record that is no SOA
  abbrev pub next_other : State R → Option R → Step R
  next_other Begin r = None
  next_other (FirstSoa a first) r = Some (Whole a first, DeleteAllRecords ∷ additions r)
  next_other (Whole a first) r = Some (Whole a first, additions r)
  next_other (Deleting a) r = Some (Deleting a, deletions r)
  next_other (Adding a p) r = Some (Adding a p, additions r)
  next_other Done r = None

  -- The end of changes that led to a serial; they are to lead to that of the first SOA.
  abbrev pub at_last : (reached first : ℕ) → R → Step R
  at_last p a r = if p == a then Some (Done, Finished a r ∷ []) else None

  -- what a step adds to the updates, and the state that it leaves
  abbrev pub MadeStep : (old new : List (Update R)) → Option (State R) → Step R → Type 0
  MadeStep old new after None = after ≡ None
  MadeStep old new after (Some x) = (after ≡ Some x.0) × (new ≡ old ++ x.1)

  abbrev pub behind : List (Update R) → Step R → Step R
  behind us step = option_map (λ x. (x.0, us ++ x.1)) step

-- where records are the same by this
module _ {R : Type 0} (same : R → R → Bool) where
  -- The end of a whole zone, behind these updates: its last SOA is to be the first one again.
  abbrev pub at_whole : List (Update R) → (a : ℕ) → (first last : R) → Step R
  at_whole us a first r = if same first r then Some (Done, us ++ Finished a r ∷ []) else None

  -- an SOA with this serial
  abbrev pub next_soa : XfrKind → State R → (serial : ℕ) → R → Step R
  next_soa kind Begin s r = starts kind s r
  next_soa kind (FirstSoa a first) s r = if s == a then at_whole (DeleteAllRecords ∷ []) a first r else Some (Deleting a, BeginBatchDelete s r ∷ [])
  next_soa kind (Whole a first) s r = if s == a then at_whole [] a first r else None
  next_soa kind (Deleting a) s r = Some (Adding a s, BeginBatchAdd s r ∷ [])
  next_soa kind (Adding a p) s r = if s == a then at_last p a r else Some (Deleting a, BeginBatchDelete s r ∷ [])
  next_soa kind Done s r = None

  abbrev pub next : XfrKind → State R → Entry R → Step R
  next kind state (Soa s r) = next_soa kind state s r
  next kind state (Other r) = next_other state r

  -- records, one after another
  abbrev pub run : XfrKind → State R → List (Entry R) → Step R
  run kind state [] = Some (state, [])
  run kind state (e ∷ es) = option_and_then (λ x. behind x.1 (run kind x.0 es)) (next kind state e)

-- It doesn't matter where the records are cut.
abbrev pub RunsAreCut : Type 0 → Type 0
RunsAreCut R = (same : R → R → Bool) (kind : XfrKind) (state : State R) (a b : List (Entry R)) → run same kind state (a ++ b) ≡ option_and_then (λ x. behind x.1 (run same kind x.0 b)) (run same kind state a)
