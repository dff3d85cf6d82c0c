-- What the messages of a transfer say, however its records are cut into them.
use Rattle.std.specs.Prelude.{◌≡◌, ℕ, ◌==◌, if◌then◌else◌, List, [], ◌∷◌, ◌++◌, Option, Some, None, Result, Ok, Err, option_and_then, option_map}
use Rattle.dns_values.specs.declared.error.ParseError.{ParseError}
use Rattle.dns_base.specs.Header.{rcode_of}
use Rattle.dns_base.specs.Message.{Known, answer_items}
use Rattle.dns_names.specs.Name.{Labels}
use Rattle.zone_reading.specs.declared.steps.Entry.{Entry}
use Rattle.zone_reading.specs.declared.steps.State.TheVariants.{Done}
use Rattle.zone_reading.specs.declared.steps.Update.{Update}
use Rattle.zone_reading.specs.declared.steps.XfrKind.{XfrKind}
use Rattle.zone_reading.specs.declared.steps.XfrKind.TheVariants.{Axfr, Ixfr}
use Rattle.zone_reading.specs.Readings.{IsTransfer}
use Rattle.zone_records.specs.Interpreting.{Interpreter, Read, begun, interpreted}
use Rattle.zone_records.specs.Records.{entry_of, is_same}
use Rattle.zone_records.specs.declared.record.ZoneRecord.{ZoneRecord}

abbrev pub Entries : Type 0
Entries = List (Entry ZoneRecord)

module _ (apex : Labels) where
  -- what a reader of a section meets, where each record of it is one of a transfer
  abbrev pub entries_in : List (Result Known ParseError) → Option Entries
  entries_in [] = Some []
  entries_in (Err _ ∷ items) = None
  entries_in (Ok known ∷ items) = option_and_then (λ entry. option_map (λ more. entry ∷ more) (entries_in items)) (entry_of apex known)

  abbrev pub if_some : Option Entries → Option Entries
  if_some None = None
  if_some (Some []) = None
  if_some (Some (entry ∷ more)) = Some (entry ∷ more)

  -- the records of a message of response code 0, of which there is one at least
  abbrev pub entries_of : List ℕ → Option Entries
  entries_of message = if rcode_of message == 0 then if_some (option_and_then entries_in (answer_items message)) else None

  -- those of messages, one behind the other
  abbrev pub all_entries : List (List ℕ) → Option Entries
  all_entries [] = Some []
  all_entries (message ∷ messages) = option_and_then (λ first. option_map (λ more. first ++ more) (all_entries messages)) (entries_of message)

-- messages are read one by one, and none is refused
abbrev pub AllRead : Type 0
AllRead = Option (Interpreter × List (Update ZoneRecord))

-- updates that come first
abbrev pub behind_updates : List (Update ZoneRecord) → AllRead → AllRead
behind_updates us None = None
behind_updates us (Some y) = Some (y.0, us ++ y.1)

abbrev pub then_read : (Interpreter → AllRead) → Read → AllRead
then_read more (Err fault) = None
then_read more (Ok x) = behind_updates x.1 (more x.0)

abbrev pub all_read : Interpreter → List (List ℕ) → AllRead
all_read s [] = Some (s, [])
all_read s (message ∷ messages) = then_read (λ t. all_read t messages) (interpreted s message)

-- Changes don't begin with a message of one record.
abbrev pub BeginsWithMore : Labels → XfrKind → List (List ℕ) → Type 0
BeginsWithMore apex Axfr messages = Unit {0}
BeginsWithMore apex Ixfr [] = Unit {0}
BeginsWithMore apex Ixfr (message ∷ messages) = (entry : Entry ZoneRecord) → entries_of apex message ≡ Some (entry ∷ []) → ⊥

-- Messages that are read to the end of a transfer are one, and these are its updates; and each transfer is read so, however it is cut into messages.
pub record TransfersLaw : Type 0 where
  pub sound : (apex : Labels) (kind : XfrKind) (messages : List (List ℕ)) (s : Interpreter) (us : List (Update ZoneRecord)) → all_read (begun apex kind) messages ≡ Some (s, us) → s.state ≡ Done
      → (es : Entries) × (all_entries apex messages ≡ Some es) × IsTransfer is_same kind es us
  pub complete : (apex : Labels) (kind : XfrKind) (messages : List (List ℕ)) (es : Entries) (us : List (Update ZoneRecord)) → all_entries apex messages ≡ Some es → IsTransfer is_same kind es us
      → BeginsWithMore apex kind messages → (s : Interpreter) × (all_read (begun apex kind) messages ≡ Some (s, us)) × (s.state ≡ Done)
