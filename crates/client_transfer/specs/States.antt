-- Where a zone transfer is, and what each record and each message does to it (RFC 5936 2.2, RFC 1995 4).
use Rattle.std.specs.Prelude.{ℕ, ◌==◌, not, Bool, true, false, if◌then◌else◌, List, [], ◌∷◌, Option, Some, None, Result, Ok, Err}
use Rattle.dns_values.specs.declared.error.ParseError.{ParseError}
use Rattle.dns_values.specs.declared.numbers.Serial.{Serial}
use Rattle.dns_base.specs.Header.{rcode_of}
use Rattle.dns_base.specs.Data.{Data, StartOfAuthority}
use Rattle.dns_base.specs.Message.{Known, answer_items}
use Rattle.client_request.specs.Requests.{Requests}
use Rattle.client_transfer.specs.declared.state.XfrState.{XfrState}
use Rattle.client_transfer.specs.declared.state.XfrState.TheVariants.{AxfrInit, AxfrFirstSoa, IxfrInit, IxfrFirstSoa, IxfrFirstDiffSoa, IxfrSecondDiffSoa, Done, Error}
use Rattle.client_transfer.specs.declared.kind.RecordKind.{RecordKind}
use Rattle.client_transfer.specs.declared.kind.RecordKind.TheVariants.{KeptSoa, OtherSoa, NoSoa}
use Rattle.client_transfer.specs.declared.kind.Refusal.{Refusal}
use Rattle.client_transfer.specs.declared.kind.Refusal.TheVariants.{Unreadable, Wrong}

-- the serial of the first SOA
abbrev pub kept_serial : XfrState → Option Serial
kept_serial (AxfrFirstSoa kept) = Some kept
kept_serial (IxfrFirstSoa kept) = Some kept
kept_serial (IxfrFirstDiffSoa kept) = Some kept
kept_serial (IxfrSecondDiffSoa kept) = Some kept
kept_serial AxfrInit = None
kept_serial IxfrInit = None
kept_serial Done = None
kept_serial Error = None

-- what a record is at a state
abbrev pub soa_kind : Option Serial → Serial → RecordKind
soa_kind None serial = OtherSoa serial
soa_kind (Some kept) serial = if kept.0 == serial.0 then KeptSoa serial else OtherSoa serial

abbrev pub kind_of : XfrState → Data → RecordKind
kind_of state (StartOfAuthority soa) = soa_kind (kept_serial state) (record { 0 = soa.serial })
kind_of state _ = NoSoa

-- The state after a record; none where it is wrong.
abbrev pub next_state : XfrState → RecordKind → Option XfrState
next_state AxfrInit (KeptSoa serial) = Some (AxfrFirstSoa serial)
next_state AxfrInit (OtherSoa serial) = Some (AxfrFirstSoa serial)
next_state AxfrInit NoSoa = None
next_state (AxfrFirstSoa kept) (KeptSoa _) = Some Done
next_state (AxfrFirstSoa kept) (OtherSoa _) = None
next_state (AxfrFirstSoa kept) NoSoa = Some (AxfrFirstSoa kept)
next_state IxfrInit (KeptSoa serial) = Some (IxfrFirstSoa serial)
next_state IxfrInit (OtherSoa serial) = Some (IxfrFirstSoa serial)
next_state IxfrInit NoSoa = None
next_state (IxfrFirstSoa kept) (KeptSoa _) = Some Done
next_state (IxfrFirstSoa kept) (OtherSoa _) = Some (IxfrFirstDiffSoa kept)
next_state (IxfrFirstSoa kept) NoSoa = Some (AxfrFirstSoa kept)
next_state (IxfrFirstDiffSoa kept) (KeptSoa _) = Some (IxfrSecondDiffSoa kept)
next_state (IxfrFirstDiffSoa kept) (OtherSoa _) = Some (IxfrSecondDiffSoa kept)
next_state (IxfrFirstDiffSoa kept) NoSoa = Some (IxfrFirstDiffSoa kept)
next_state (IxfrSecondDiffSoa kept) (KeptSoa _) = Some Done
next_state (IxfrSecondDiffSoa kept) (OtherSoa _) = Some (IxfrFirstDiffSoa kept)
next_state (IxfrSecondDiffSoa kept) NoSoa = Some (IxfrSecondDiffSoa kept)
next_state Done _ = None
next_state Error _ = None

abbrev pub or_wrong : Option XfrState → Result XfrState Refusal
or_wrong None = Err Wrong
or_wrong (Some state) = Ok state

-- a record, by what its data says
abbrev pub takes_data : XfrState → Option Data → Result XfrState Refusal
takes_data state None = Err Unreadable
takes_data state (Some content) = or_wrong (next_state state (kind_of state content))

abbrev pub takes_known : XfrState → Known → Result XfrState Refusal
takes_known state known = takes_data state known.says

-- what a reader of a section meets
abbrev pub takes_item : XfrState → Result Known ParseError → Result XfrState Refusal
takes_item state (Err _) = Err Unreadable
takes_item state (Ok known) = takes_known state known

-- one after another, up to the first that is refused
abbrev pub takes_then : (XfrState → Result XfrState Refusal) → Result XfrState Refusal → Result XfrState Refusal
takes_then next (Ok state) = next state
takes_then next (Err refusal) = Err refusal

abbrev pub takes_items : XfrState → List (Result Known ParseError) → Result XfrState Refusal
takes_items state [] = Ok state
takes_items state (item ∷ items) = takes_then (λ next. takes_items next items) (takes_item state item)

abbrev pub takes_section : XfrState → Option (List (Result Known ParseError)) → Result XfrState Refusal
takes_section state None = Err Unreadable
takes_section state (Some items) = takes_items state items

-- what a message gives: whether the transfer ends, the state that is left, and whether the message belongs to the transfer
abbrev pub Checked : Type 0
Checked = Bool × XfrState × Bool

-- after the last record
abbrev pub at_end : XfrState → Checked
at_end AxfrInit = (false, Error, false)
at_end IxfrInit = (false, Error, false)
at_end (IxfrFirstSoa _) = (true, Done, true)
at_end Done = (true, Done, true)
at_end (AxfrFirstSoa kept) = (false, AxfrFirstSoa kept, true)
at_end (IxfrFirstDiffSoa kept) = (false, IxfrFirstDiffSoa kept, true)
at_end (IxfrSecondDiffSoa kept) = (false, IxfrSecondDiffSoa kept, true)
at_end Error = (false, Error, false)

abbrev pub concludes : Result XfrState Refusal → Checked
concludes (Ok state) = at_end state
concludes (Err Unreadable) = (true, Error, false)
concludes (Err Wrong) = (false, Error, false)

abbrev pub by_records : XfrState → List ℕ → Checked
by_records state message = concludes (takes_section state (answer_items message))

-- Whether a message is looked into: the first one only where it is an answer, and none after the end or a refusal.
abbrev pub is_open : XfrState → (is_answer : Bool) → Bool
is_open AxfrInit is_answer = is_answer
is_open IxfrInit is_answer = is_answer
is_open (AxfrFirstSoa _) is_answer = true
is_open (IxfrFirstSoa _) is_answer = true
is_open (IxfrFirstDiffSoa _) is_answer = true
is_open (IxfrSecondDiffSoa _) is_answer = true
is_open Done is_answer = false
is_open Error is_answer = false

-- A message with a response code other than 0 ends the transfer where it is an answer.
abbrev pub by_code : XfrState → (is_answer : Bool) → Checked
by_code state true = (true, state, true)
by_code state false = (false, Error, false)

abbrev pub checked_as : (is_answer : Bool) → XfrState → List ℕ → Checked
checked_as is_answer state message =
    if not (is_open state is_answer) then (false, Error, false)
    else if rcode_of message == 0 then by_records state message
    else by_code state is_answer

-- what a message gives to the transfer of a request
abbrev pub checked : {R : Type 0} → Requests R → R → XfrState → List ℕ → Checked
checked requests request state message = checked_as (requests.is_answered message request) state message
