-- What the messages of a zone transfer do to a zone.
use Rattle.std.specs.Prelude.{ℕ, ◌+◌, ◌-◌, ◌^◌, min, ◌==◌, Bool, true, false, if◌then◌else◌, List, [], ◌∷◌, Option, Some, None, Result, Ok, Err, option_and_then}
use Rattle.dns_values.specs.declared.error.ParseError.{ParseError}
use Rattle.dns_base.specs.Header.{rcode_of}
use Rattle.dns_base.specs.Message.{Known, answer_items}
use Rattle.dns_names.specs.Name.{Labels}
use Rattle.zone_reading.specs.declared.steps.Entry.{Entry}
use Rattle.zone_reading.specs.declared.steps.Entry.TheVariants.{Soa, Other}
use Rattle.zone_reading.specs.declared.steps.State.{State}
use Rattle.zone_reading.specs.declared.steps.State.TheVariants.{Begin, FirstSoa, Whole, Deleting, Adding, Done}
use Rattle.zone_reading.specs.declared.steps.Update.{Update}
use Rattle.zone_reading.specs.declared.steps.XfrKind.{XfrKind}
use Rattle.zone_reading.specs.Running.{Step, behind, next}
use Rattle.zone_records.specs.Records.{entry_of, is_same}
use Rattle.zone_records.specs.declared.interpreter.XfrFault.{XfrFault}
use Rattle.zone_records.specs.declared.interpreter.XfrFault.TheVariants as fault
use Rattle.zone_records.specs.declared.record.ZoneRecord.{ZoneRecord}

-- the zone that is transferred, what was asked for, where the transfer is, and how many records outside the zone came
pub record Interpreter : Type 0 where
  pub apex : Labels
  pub kind : XfrKind
  pub state : State ZoneRecord
  pub outside : ℕ

abbrev pub begun : Labels → XfrKind → Interpreter
begun apex kind = record { apex = apex; kind = kind; state = Begin; outside = 0 }

abbrev pub is_done : State ZoneRecord → Bool
is_done Begin = false
is_done (FirstSoa _ _) = false
is_done (Whole _ _) = false
is_done (Deleting _) = false
is_done (Adding _ _) = false
is_done Done = true

module _ (apex : Labels) (kind : XfrKind) where
  -- a record, where it is one of a transfer
  abbrev pub takes_entry : State ZoneRecord → Option (Entry ZoneRecord) → Step ZoneRecord
  takes_entry state None = None
  takes_entry state (Some entry) = next is_same kind state entry

  -- what a reader of a section meets
  abbrev pub takes_item : State ZoneRecord → Result Known ParseError → Step ZoneRecord
  takes_item state (Err _) = None
  takes_item state (Ok known) = takes_entry state (entry_of apex known)

  -- one after another
  abbrev pub takes_items : State ZoneRecord → List (Result Known ParseError) → Step ZoneRecord
  takes_items state [] = Some (state, [])
  takes_items state (item ∷ items) = option_and_then (λ x. behind x.1 (takes_items x.0 items)) (takes_item state item)

  -- the same, where there is one at least
  abbrev pub takes_some : State ZoneRecord → List (Result Known ParseError) → Step ZoneRecord
  takes_some state [] = None
  takes_some state (item ∷ items) = takes_items state (item ∷ items)

-- the records of an answer section, of which there is one at least
abbrev pub takes_answer : Interpreter → Option (List (Result Known ParseError)) → Step ZoneRecord
takes_answer s None = None
takes_answer s (Some items) = takes_some s.apex s.kind s.state items

-- ---- records outside the zone

abbrev pub outsiders_of : Option (Entry ZoneRecord) → ℕ
outsiders_of None = 0
outsiders_of (Some (Soa _ _)) = 0
outsiders_of (Some (Other None)) = 1
outsiders_of (Some (Other (Some _))) = 0

abbrev pub item_outsiders : Labels → Result Known ParseError → ℕ
item_outsiders apex (Err _) = 0
item_outsiders apex (Ok known) = outsiders_of (entry_of apex known)

-- how many of them there are
abbrev pub outsiders : Labels → List (Result Known ParseError) → ℕ
outsiders apex [] = 0
outsiders apex (item ∷ items) = item_outsiders apex item + outsiders apex items

abbrev pub answer_outsiders : Labels → Option (List (Result Known ParseError)) → ℕ
answer_outsiders apex None = 0
answer_outsiders apex (Some items) = outsiders apex items

-- a count and so many more, as far as 64 bits count them
abbrev pub counted : (before more : ℕ) → ℕ
counted before more = min (before + more) (2 ^ 64 - 1)

-- ---- messages

-- what a message gives
abbrev pub Read : Type 0
Read = Result (Interpreter × List (Update ZoneRecord)) XfrFault

-- One SOA alone in answer to a request for changes is no transfer.
abbrev pub read_at : Interpreter → (outside : ℕ) → State ZoneRecord → List (Update ZoneRecord) → Read
read_at s outside (FirstSoa serial _) us = Err (fault.SingleSoa (record { 0 = serial }))
read_at s outside state us = Ok (record s { state = state; outside = outside }, us)

abbrev pub read_to : Interpreter → (outside : ℕ) → Step ZoneRecord → Read
read_to s outside None = Err fault.NotValid
read_to s outside (Some x) = read_at s outside x.0 x.1

-- what a message that comes next does
abbrev pub interpreted : Interpreter → List ℕ → Read
interpreted s message =
    if is_done s.state then Err fault.AlreadyFinished
    else if rcode_of message == 0 then read_to s (counted s.outside (answer_outsiders s.apex (answer_items message))) (takes_answer s (answer_items message))
    else Err fault.NotValid
