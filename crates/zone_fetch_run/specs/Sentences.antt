-- The sentences that tell why no zone is written, or not whole.
use Rattle.std.specs.Prelude.{ℕ, ◌-◌, List, [], ◌++◌, codes, decimal, slice_get, Option, None, Some, String}
use Rattle.std.specs.String.{string_bytes}
use Rattle.std.specs.declared.alloc.Global.{Global}
use Rattle.client_request.specs.ErrorText.{error_text}
use Rattle.client_request.specs.Fault.{fault_text}
use Rattle.client_request.specs.declared.fault.Fault.{Fault}
use Rattle.client_request.specs.declared.fault.Fault.TheVariants as network
use Rattle.client_request.specs.declared.error.Error.{Error}
use Rattle.client_request.specs.declared.error.Error.TheVariants as errors
use Rattle.dns_names.specs.Text.{name_text}
use Rattle.dns_values.specs.Address.{socket_address_text}
use Rattle.dns_values.specs.NumberNames.{rcode_text}
use Rattle.zone_records.specs.declared.interpreter.XfrFault.{XfrFault}
use Rattle.zone_records.specs.declared.interpreter.XfrFault.TheVariants as transfers
use Rattle.zone_records.specs.declared.zone.ApplyFault.{ApplyFault}
use Rattle.zone_records.specs.declared.zone.ApplyFault.TheVariants as applying
use Rattle.zone_text.specs.Telling.{flaw_text}
use Rattle.zone_text.specs.declared.zone.Flaw.{Flaw}
use Rattle.zone_transfer.specs.declared.fault.FetchFault.{FetchFault}
use Rattle.zone_transfer.specs.declared.fault.FetchFault.TheVariants as faults
use Rattle.zone_fetch_run.specs.declared.command.Command.{Command}
use Rattle.zone_fetch_run.specs.declared.leading.Detour.{Detour}
use Rattle.zone_fetch_run.specs.declared.leading.Detour.TheVariants as detours
use Rattle.zone_fetch_run.specs.declared.leading.Left.{Left}
use Rattle.zone_fetch_run.specs.declared.leading.Left.TheVariants as lefts
use Rattle.zone_fetch_run.specs.declared.stop.Stop.{Stop}
use Rattle.zone_fetch_run.specs.declared.stop.Stop.TheVariants as stops
use Rattle.zone_fetch_run.specs.declared.wrong.Refusal.{Refusal}
use Rattle.zone_fetch_run.specs.declared.wrong.Refusal.TheVariants as refusals
use Rattle.zone_fetch_run.specs.declared.wrong.Wrong.{Wrong}
use Rattle.zone_fetch_run.specs.declared.wrong.Wrong.TheVariants as wrongs

-- ---- words that are no command

-- what is wrong with a word, behind this one: where an address must stand that is the zone
abbrev pub wrong_text : (before : List ℕ) → Wrong → List ℕ
wrong_text before wrongs.Port = codes "is no port from 1 to 65535"
wrong_text before wrongs.Most = codes "is no count of octets"
wrong_text before wrongs.Zone = codes "is neither an option nor the name of a zone"
wrong_text before wrongs.Address = codes "stands behind the zone " ++ before ++ codes ", where the server must, and is no address"
wrong_text before wrongs.More = codes "stands behind the server's address, where no word may"

abbrev pub text_of : Option (String Global) → List ℕ
text_of None = []
text_of (Some word) = string_bytes word

-- the word of a number
abbrev pub word_at : List (String Global) → ℕ → List ℕ
word_at words n = text_of (slice_get words n)

abbrev pub word_text : List (String Global) → ℕ → Wrong → List ℕ
word_text words n wrong = word_at words n ++ codes " " ++ wrong_text (word_at words (n - 1)) wrong

-- what is wrong, which names the word
abbrev pub refusal_text : List (String Global) → Refusal → List ℕ
refusal_text words (refusals.Word n wrong) = word_text words n wrong
refusal_text words refusals.NoPort = codes "no port stands behind --port"
refusal_text words refusals.NoMost = codes "no count of octets stands behind --most"
refusal_text words refusals.NoFile = codes "no file stands behind --from"
refusal_text words refusals.NoOutput = codes "no file stands behind --output"
refusal_text words refusals.NoZone = codes "no zone is asked for"
refusal_text words refusals.NoAddress = codes "no address of a server stands behind the zone"

abbrev pub refusal_sentence : List (String Global) → Refusal → List ℕ
refusal_sentence words refusal = codes "zone_fetch: " ++ refusal_text words refusal ++ codes "; see zone_fetch --help\n"

-- ---- a zone that is not fetched

-- what failed at a stream, with the fault of it where there is one
abbrev pub read_text : Fault → List ℕ
read_text network.EndOfData = codes "the server closed the stream before the transfer's end"
read_text fault = codes "reading the stream failed: " ++ fault_text fault

abbrev pub stream_text : Error → List ℕ
stream_text (errors.StreamReadError fault) = codes "failed transport: " ++ read_text fault
stream_text errors.StreamUnexpectedEndOfData = codes "failed transport: the stream was cut within a message"
stream_text errors.StreamReadTimeout = codes "failed transport: no message came for 19 seconds"
stream_text errors.WrongReplyForQuery = codes "failed transport: a message came that answers another question"
stream_text (errors.StreamWriteError fault) = codes "failed transport: writing to the stream failed: " ++ fault_text fault
stream_text errors.NumbersUsed = codes "numbers used: a number would pass 64 bits"
stream_text error = codes "failed transport: " ++ error_text error

-- what the messages are in place of a transfer
abbrev pub transfer_text : XfrFault → List ℕ
transfer_text transfers.NotValid = codes "what came is no transfer of the zone: it ends otherwise than it began, or has a record that no zone holds"
transfer_text (transfers.SingleSoa serial) = codes "the server has no changes, and a zone with serial " ++ decimal serial.0
transfer_text transfers.AlreadyFinished = codes "more came behind the transfer's end"
transfer_text transfers.NoMemory = codes "memory ran out"

abbrev pub apply_text : ApplyFault → List ℕ
apply_text (applying.WrongSerial have got) = codes "the changes are those of a zone with serial " ++ decimal got.0
apply_text applying.Unfinished = codes "the changes do not end"
apply_text applying.NoMemory = codes "memory ran out"

abbrev pub told_fault : (most : ℕ) → FetchFault → List ℕ
told_fault most (faults.Connect fault) = codes "failed connect: " ++ fault_text fault
told_fault most (faults.Transport error) = stream_text error
told_fault most (faults.Refused code) = codes "failed refused: the server answered " ++ rcode_text code.0
told_fault most (faults.Xfr fault) = codes "failed transfer: " ++ transfer_text fault
told_fault most (faults.Apply fault) = codes "failed serial: " ++ apply_text fault
told_fault most faults.TooLarge = codes "failed too-large: its records take more than " ++ decimal most ++ codes " octets, which --most says"
told_fault most faults.NoReply = codes "failed no-reply: the server was silent for a million turns"
told_fault most faults.NoMemory = codes "memory ran out"

abbrev pub memory_sentence : List ℕ
memory_sentence = codes "zone_fetch: memory ran out\n"

-- the file that the words name
abbrev pub path_text : Command → List ℕ
path_text command = text_of command.file

-- a serial that is not greater than another
abbrev pub compared_text : (have got : ℕ) → List ℕ
compared_text have got = codes "its serial " ++ decimal got ++ codes " is not greater than " ++ decimal have

-- why the zone is left as it was
abbrev pub left_told : (most : ℕ) → (path : List ℕ) → Left → List ℕ
left_told most path (lefts.NotFetched fault) = told_fault most fault
left_told most path (lefts.Unchanged serial) = codes "unchanged: its serial is " ++ decimal serial.0 ++ codes ", which " ++ path ++ codes " has"
left_told most path (lefts.NotNewer have got) = codes "failed serial: " ++ compared_text have.0 got.0 ++ codes ", which " ++ path ++ codes " has"

abbrev pub left_text : Command → Left → List ℕ
left_text command left = left_told command.most (path_text command) left

-- why the whole zone was asked for
abbrev pub detour_text : Detour → List ℕ
detour_text (detours.Refused code) = codes "asked for whole: the server answered " ++ rcode_text code.0 ++ codes " where its changes were asked for"
detour_text (detours.NoChanges serial) = codes "asked for whole: the server has no changes, and a zone with serial " ++ decimal serial.0
detour_text (detours.Misfits count) = codes "asked for whole: of its changes " ++ decimal count ++ codes " delete what is not there, or add what is"

-- the zone and the server, and this of them
abbrev pub server_sentence : Command → List ℕ → List ℕ
server_sentence command text = codes "zone_fetch: " ++ (name_text command.apex ++ (codes " from " ++ (socket_address_text command.server ++ (codes ": " ++ (text ++ codes "\n")))))

-- none where it was not
abbrev pub detour_sentence : Command → Option Detour → List ℕ
detour_sentence command None = []
detour_sentence command (Some why) = server_sentence command (detour_text why)

-- the file, and why it has no printed zone
abbrev pub flaw_sentence : (path : List ℕ) → Flaw → List ℕ
flaw_sentence path flaw = codes "zone_fetch: " ++ (path ++ (codes ": no printed zone: " ++ (flaw_text flaw ++ codes "\n")))

abbrev pub stop_sentence : Command → Stop → List ℕ
stop_sentence command stops.Unread = codes "zone_fetch: " ++ path_text command ++ codes " could not be read\n"
stop_sentence command (stops.NotPrinted flaw) = flaw_sentence (path_text command) flaw
stop_sentence command (stops.NotBrought left) = server_sentence command (left_text command left)
stop_sentence command stops.NoMemory = memory_sentence

-- ---- a zone that is not written whole

abbrev pub unprinted_sentence : List ℕ
unprinted_sentence = codes "zone_fetch: writing to standard output failed\n"

abbrev pub unwritten_at : Option (String Global) → List ℕ
unwritten_at None = unprinted_sentence
unwritten_at (Some path) = codes "zone_fetch: " ++ string_bytes path ++ codes " could not be written\n"

abbrev pub unwritten_sentence : Command → List ℕ
unwritten_sentence command = unwritten_at command.output
