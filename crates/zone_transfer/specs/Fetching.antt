-- A zone that is fetched: what the edge gave, and what of that was done to the zone; or why it was not.
use Rattle.std.specs.Prelude.{◌≡◌, ◌≢◌, ◌⊎◌, ℕ, Bool, true, false, List, ◌++◌, length, Option, None, Some, Result, Ok, Err}
use Rattle.dns_base.specs.Message.{is_xfr}
use Rattle.client_request.specs.Board.{Part, part_of}
use Rattle.client_request.specs.Request.{Request}
use Rattle.client_request.specs.declared.board.Posted.{Posted}
use Rattle.client_request.specs.declared.error.Error.{Error}
use Rattle.client_request.specs.declared.error.Error.TheVariants as errors
use Rattle.client_request.specs.declared.event.What.{What}
use Rattle.stream_turns.specs.Turns.{Client, client_with}
use Rattle.zone_reading.specs.Readings.{IsTransfer}
use Rattle.zone_reading.specs.declared.steps.Update.{Update}
use Rattle.zone_reading.specs.declared.steps.XfrKind.{XfrKind}
use Rattle.zone_records.specs.Folding.{Applies, Zone, checked}
use Rattle.zone_records.specs.Held.{AllHeld, IsZone}
use Rattle.zone_records.specs.Interpreting.{is_done}
use Rattle.zone_records.specs.Records.{is_same}
use Rattle.zone_records.specs.Transfers.{Entries, all_entries}
use Rattle.zone_records.specs.declared.interpreter.XfrFault.TheVariants as xfr
use Rattle.zone_records.specs.declared.record.ZoneRecord.{ZoneRecord}
use Rattle.zone_records.specs.declared.zone.ApplyFault.TheVariants as applying
use Rattle.zone_transfer.specs.Reading.{AreRead, BoundedReading, IsRefusedAt, IsWithin, ReadSoFar, TakesPart, nothing_read}
use Rattle.zone_transfer.specs.Requesting.{message_of, request_of}
use Rattle.zone_transfer.specs.Turning.{Asks, EndsOpening, NeverOpens, Passes, Scene, Stand, StopsAsked, StopsTurned, messages_of}
use Rattle.zone_transfer.specs.declared.asked.Asked.{Asked}
use Rattle.zone_transfer.specs.declared.fault.FetchFault.{FetchFault}
use Rattle.zone_transfer.specs.declared.fault.FetchFault.TheVariants.{Connect, Transport, Refused, Xfr, Apply, TooLarge, NoReply, NoMemory}

-- ---- results that stand, one after another

-- Messages that stand are read.
pub record ReadsStanding (s : ReadSoFar) (board rest : List Posted) (t : ReadSoFar) : Type 0 where
  pub messages : List (List ℕ)
  pub stand : Stand board messages rest
  pub read : AreRead s messages t

-- Behind them is the end, or nothing yet.
pub record ReadsUpTo (s : ReadSoFar) (board : List Posted) (end : Option Part) (after : List Posted) (t : ReadSoFar) : Type 0 where
  pub rest : List Posted
  pub reads : ReadsStanding s board rest t
  pub ends : part_of 0 rest ≡ end

-- Behind them is a result that is not taken.
pub record RefusesPart (most : ℕ) (s : ReadSoFar) (board : List Posted) (fault : FetchFault) : Type 0 where
  pub rest : List Posted
  pub state : ReadSoFar
  pub reads : ReadsStanding s board rest state
  pub part : Part
  pub stands : part_of 0 rest ≡ Some part
  pub refused : TakesPart most state part (Err fault) state

abbrev pub TakesParts : (most : ℕ) → ReadSoFar → (board : List Posted) → Result Bool FetchFault → (after : List Posted) → ReadSoFar → Type 0
TakesParts most s board (Ok true) after t = ReadsUpTo s board (Some (Ok None)) after t
TakesParts most s board (Ok false) after t = ReadsStanding s board after t × (part_of 0 after ≡ None)
TakesParts most s board (Err fault) after t = RefusesPart most s board fault

-- ---- turns until the end

-- The connection says that the transfer has ended.
pub record Completes (s : ReadSoFar) (first : Client) (left : ℕ) (t : ReadSoFar) (old new : Scene) : Type 0 where
  pub passed : Passes s first left t old new
  pub ends : part_of 0 passed.rest ≡ Some (Ok None)

module _ (s : ReadSoFar) (first : Client) (left : ℕ) (old new : Scene) where
  -- A message is refused,
  pub record RefusedIn (most : ℕ) (fault : FetchFault) : Type 0 where
    pub state : ReadSoFar
    pub passed : Passes s first left state old new
    pub message : List ℕ
    pub stands : part_of 0 passed.rest ≡ Some (Ok (Some message))
    pub refused : IsRefusedAt most state message fault

  -- or the result is an error,
  pub record FailsIn (error : Error) : Type 0 where
    pub state : ReadSoFar
    pub passed : Passes s first left state old new
    pub stands : part_of 0 passed.rest ≡ Some (Err error)

  -- or no turn is left, and nothing stands.
  pub record NeverEnds : Type 0 where
    pub state : ReadSoFar
    pub passed : Passes s first left state old new
    pub none : part_of 0 passed.rest ≡ None
    pub all : length passed.turns ≡ left

  abbrev pub IsStreamCut : Error → Type 0
  IsStreamCut error = (error ≢ errors.NoMemory) × (FailsIn error ⊎ ((error ≡ errors.NumbersUsed) × StopsTurned s first left old new))

  -- why the messages of a transfer don't come to their end
  abbrev pub IsCut : (most : ℕ) → FetchFault → Type 0
  IsCut most (Connect _) = ⊥
  IsCut most (Transport error) = IsStreamCut error
  IsCut most (Refused rcode) = RefusedIn most (Refused rcode)
  IsCut most (Xfr fault) = RefusedIn most (Xfr fault)
  IsCut most (Apply _) = ⊥
  IsCut most TooLarge = RefusedIn most TooLarge
  IsCut most NoReply = NeverEnds
  IsCut most NoMemory = Unit {0}

-- the same of what was asked for
abbrev pub EndsFrom : ReadSoFar → (words : ℕ → ℕ) → Asked → ReadSoFar → (old new : Scene) → Type 0
EndsFrom s words asked t old new = Completes s (client_with words asked.transfer) asked.left t old new

abbrev pub IsCutFrom : BoundedReading → (words : ℕ → ℕ) → Asked → FetchFault → (old new : Scene) → Type 0
IsCutFrom reading words asked fault old new = IsCut reading.state (client_with words asked.transfer) asked.left old new reading.most fault

-- why nothing is asked for
module _ (request : Request) (words : ℕ → ℕ) (old new : Scene) where
  abbrev pub IsUnasked : FetchFault → Type 0
  IsUnasked (Connect fault) = (polled : List (Option What)) × EndsOpening old new (Err fault) polled
  IsUnasked (Transport error) = (error ≡ errors.NumbersUsed) × StopsAsked request words old new
  IsUnasked NoReply = NeverOpens 1000000 old new
  IsUnasked NoMemory = Unit {0}
  IsUnasked (Refused _) = ⊥
  IsUnasked (Xfr _) = ⊥
  IsUnasked (Apply _) = ⊥
  IsUnasked TooLarge = ⊥

-- ---- the zone

-- A transfer of a zone was asked for, and then turns were made: what is read of their messages is this.
pub record Reaches (kind : XfrKind) (words : ℕ → ℕ) (zone : Zone) (before : Scene) (state : ReadSoFar) (after : Scene) : Type 0 where
  pub first : Client
  pub left : ℕ
  pub mid : Scene
  pub asked : Asks (request_of zone kind) words first left before mid
  pub passed : Passes (nothing_read zone.apex kind) first left state mid after

-- The messages that the connection gave of what the edge gave are a transfer of the zone, which ended, and the new zone is what its updates make of
-- the old one: a zone, if each record of the old one is one that it may hold. They take no more memory than was allowed.
pub record IsFetched (kind : XfrKind) (words : ℕ → ℕ) (most : ℕ) (old new : Zone) (missing : ℕ) (before after : Scene) : Type 0 where
  pub state : ReadSoFar
  pub reached : Reaches kind words old before state after
  pub ended : part_of 0 reached.passed.rest ≡ Some (Ok None)
  pub entries : Entries
  pub come : all_entries old.apex (messages_of reached.passed.turns ++ reached.passed.tail) ≡ Some entries
  pub transfer : IsTransfer is_same kind entries state.updates
  pub within : IsWithin most state.updates
  pub applied : Applies old state.updates new missing
  pub zone : AllHeld old → IsZone new

-- why updates are not applied
abbrev pub IsUnappliable : Option ℕ → List (Update ZoneRecord) → FetchFault → Type 0
IsUnappliable serial us (Apply fault) = (fault ≢ applying.NoMemory) × (checked serial us ≡ Err fault)
IsUnappliable serial us NoMemory = Unit {0}
IsUnappliable serial us (Connect _) = ⊥
IsUnappliable serial us (Transport _) = ⊥
IsUnappliable serial us (Refused _) = ⊥
IsUnappliable serial us (Xfr _) = ⊥
IsUnappliable serial us TooLarge = ⊥
IsUnappliable serial us NoReply = ⊥

module _ (kind : XfrKind) (words : ℕ → ℕ) (most : ℕ) (old : Zone) (before after : Scene) where
  -- A message is refused,
  pub record IsRefused (fault : FetchFault) : Type 0 where
    pub first : Client
    pub left : ℕ
    pub mid : Scene
    pub asked : Asks (request_of old kind) words first left before mid
    pub refused : RefusedIn (nothing_read old.apex kind) first left mid after most fault

  -- the result is an error, or numbers run out behind the opening,
  pub record Fails (error : Error) : Type 0 where
    pub first : Client
    pub left : ℕ
    pub mid : Scene
    pub asked : Asks (request_of old kind) words first left before mid
    pub fails : FailsIn (nothing_read old.apex kind) first left mid after error ⊎ ((error ≡ errors.NumbersUsed) × StopsTurned (nothing_read old.apex kind) first left mid after)

  -- no turn is left,
  pub record GetsNoEnd : Type 0 where
    pub first : Client
    pub left : ℕ
    pub mid : Scene
    pub asked : Asks (request_of old kind) words first left before mid
    pub never : NeverEnds (nothing_read old.apex kind) first left mid after

  -- or the connection says that the transfer has ended, and by its messages it is at its end or not.
  pub record Ends (finished : Bool) (state : ReadSoFar) : Type 0 where
    pub reached : Reaches kind words old before state after
    pub ended : part_of 0 reached.passed.rest ≡ Some (Ok None)
    pub is : is_done state.interpreter.state ≡ finished

  -- why a zone is not fetched
  abbrev pub IsCause : FetchFault → Type 0
  IsCause (Connect fault) = (polled : List (Option What)) × EndsOpening before after (Err fault) polled
  IsCause (Transport error) =
      (error ≢ errors.NoMemory)
      × (Fails error ⊎ ((error ≡ errors.NumbersUsed) × StopsAsked (request_of old kind) words before after) ⊎ ((error ≡ errors.FormError) × (is_xfr (message_of old kind) ≡ false)))
  IsCause (Refused rcode) = IsRefused (Refused rcode)
  IsCause (Xfr fault) = IsRefused (Xfr fault) ⊎ ((fault ≡ xfr.NotValid) × ((state : ReadSoFar) × Ends false state))
  IsCause (Apply fault) = (state : ReadSoFar) × Ends true state × IsUnappliable old.serial state.updates (Apply fault)
  IsCause TooLarge = IsRefused TooLarge
  IsCause NoReply = NeverOpens 1000000 before after ⊎ GetsNoEnd
  IsCause NoMemory = Unit {0}
