-- What the messages of a transfer say, one after another.
use Rattle.std.specs.Prelude.{◌≡◌, ◌≢◌, ◌<◌, ◌≤◌, ◌+◌, ◌-◌, ◌^◌, min, ℕ, Bool, true, false, List, [], ◌++◌, length, sum_by, Some, None, Ok, Err, Result}
use Rattle.dns_base.specs.Header.{rcode_of}
use Rattle.dns_names.specs.Name.{Labels}
use Rattle.client_request.specs.Board.{Part}
use Rattle.client_request.specs.declared.error.Error.{Error}
use Rattle.client_request.specs.declared.error.Error.TheVariants as errors
use Rattle.zone_reading.specs.declared.steps.Update.{Update}
use Rattle.zone_reading.specs.declared.steps.Update.TheVariants.{DeleteAllRecords, BeginBatchDelete, DeleteRecord, BeginBatchAdd, AddRecord, Finished}
use Rattle.zone_reading.specs.declared.steps.XfrKind.{XfrKind}
use Rattle.zone_records.specs.Interpreting.{Interpreter, begun, interpreted}
use Rattle.zone_records.specs.Transfers.{all_read}
use Rattle.zone_records.specs.declared.interpreter.XfrFault.{XfrFault}
use Rattle.zone_records.specs.declared.interpreter.XfrFault.TheVariants as xfr
use Rattle.zone_records.specs.declared.record.ZoneRecord.{ZoneRecord}
use Rattle.zone_transfer.specs.declared.fault.FetchFault.{FetchFault}
use Rattle.zone_transfer.specs.declared.fault.FetchFault.TheVariants.{Connect, Transport, Refused, Xfr, Apply, TooLarge, NoReply, NoMemory}

abbrev pub fault_of : Error → FetchFault
fault_of errors.NoMemory = NoMemory
fault_of error = Transport error

abbrev pub refusal_of : XfrFault → FetchFault
refusal_of xfr.NoMemory = NoMemory
refusal_of fault = Xfr fault

-- where the interpreter is, and the updates so far
pub record ReadSoFar : Type 0 where
  pub interpreter : Interpreter
  pub updates : List (Update ZoneRecord)

abbrev pub nothing_read : Labels → XfrKind → ReadSoFar
nothing_read apex kind = record { interpreter = begun apex kind; updates = [] }

-- A message is read, and its updates are behind those before.
pub record Reads (old : ReadSoFar) (message : List ℕ) (new : ReadSoFar) : Type 0 where
  pub more : List (Update ZoneRecord)
  pub says : interpreted old.interpreter message ≡ Ok (new.interpreter, more)
  pub updates : new.updates ≡ old.updates ++ more

-- the same of messages, one after another
pub record AreRead (old : ReadSoFar) (messages : List (List ℕ)) (new : ReadSoFar) : Type 0 where
  pub more : List (Update ZoneRecord)
  pub says : all_read old.interpreter messages ≡ Some (new.interpreter, more)
  pub updates : new.updates ≡ old.updates ++ more

-- ---- how much memory updates are reckoned to take, in octets

abbrev pub record_size : ZoneRecord → ℕ
record_size r = 256 + length r.owner + length r.rdata

abbrev pub size_of : Update ZoneRecord → ℕ
size_of DeleteAllRecords = 256
size_of (DeleteRecord r) = record_size r
size_of (AddRecord r) = record_size r
size_of (BeginBatchDelete _ soa) = record_size soa
size_of (BeginBatchAdd _ soa) = record_size soa
size_of (Finished _ soa) = record_size soa

abbrev pub reckoned : List (Update ZoneRecord) → ℕ
reckoned us = sum_by size_of us

-- They take no more than so much, as far as 64 bits count it.
abbrev pub IsWithin : (most : ℕ) → List (Update ZoneRecord) → Type 0
IsWithin most us = min (reckoned us) (2 ^ 64 - 1) ≤ most

-- what was read so far, and how much memory it may be reckoned to take
pub record BoundedReading : Type 0 where
  pub state : ReadSoFar
  pub most : ℕ

abbrev pub with_updates : List (Update ZoneRecord) → BoundedReading → BoundedReading
with_updates us r = record r { state = record r.state { updates = us } }

-- why updates are not appended that would lead to these: they take too much
abbrev pub AppendFault : (most : ℕ) → List (Update ZoneRecord) → FetchFault → Type 0
AppendFault most us TooLarge = most < reckoned us
AppendFault most us NoMemory = Unit {0}
AppendFault most us (Connect _) = ⊥
AppendFault most us (Transport _) = ⊥
AppendFault most us (Refused _) = ⊥
AppendFault most us (Xfr _) = ⊥
AppendFault most us (Apply _) = ⊥
AppendFault most us NoReply = ⊥

-- ---- why a message is refused that comes next: its response code, what the interpreter says of it, or that updates up to one of it take too much
pub record TakesTooMuch (most : ℕ) (s : ReadSoFar) (message : List ℕ) : Type 0 where
  pub next : Interpreter
  pub more : List (Update ZoneRecord)
  pub says : interpreted s.interpreter message ≡ Ok (next, more)
  pub above : most < reckoned (s.updates ++ more)

abbrev pub IsRefusedAt : (most : ℕ) → ReadSoFar → (message : List ℕ) → FetchFault → Type 0
IsRefusedAt most s message (Refused rcode) = (rcode_of message ≡ rcode.0) × (rcode.0 ≢ 0)
IsRefusedAt most s message (Xfr fault) = (rcode_of message ≡ 0) × (interpreted s.interpreter message ≡ Err fault)
IsRefusedAt most s message (Connect _) = ⊥
IsRefusedAt most s message (Transport _) = ⊥
IsRefusedAt most s message (Apply _) = ⊥
IsRefusedAt most s message TooLarge = TakesTooMuch most s message
IsRefusedAt most s message NoReply = ⊥
IsRefusedAt most s message NoMemory = Unit {0}

-- what a result of the stream does: it is the end, a message that is read, or an error
abbrev pub TakesPart : (most : ℕ) → ReadSoFar → Part → Result Bool FetchFault → ReadSoFar → Type 0
TakesPart most s (Ok None) (Ok ended) t = (ended ≡ true) × (t ≡ s)
TakesPart most s (Ok (Some message)) (Ok ended) t = (ended ≡ false) × Reads s message t
TakesPart most s (Err error) (Ok ended) t = ⊥
TakesPart most s (Ok None) (Err fault) t = ⊥
TakesPart most s (Ok (Some message)) (Err fault) t = IsRefusedAt most s message fault
TakesPart most s (Err error) (Err fault) t = fault ≡ fault_of error
