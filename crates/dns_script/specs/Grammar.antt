-- The lines of traces and scripts as words: what happened, and what was put out.
use Rattle.std.specs.Prelude.{ℕ, List, length, Option, Some, None, Result, Ok, Err, option_map, ◌==◌, nat_lt, if◌then◌else◌, codes}
use Rattle.std.specs.Str.{bytes_eq}
use Rattle.dns_base.specs.OptRecord.{OptFields, opt_record}
use Rattle.client_request.specs.Request.{Request, is_misformed}
use Rattle.client_request.specs.declared.fault.Fault.{Fault}
use Rattle.client_request.specs.declared.fault.Fault.TheVariants as fault
use Rattle.client_request.specs.declared.error.Error.{Error}
use Rattle.client_request.specs.declared.error.Error.TheVariants as error
use Rattle.client_request.specs.declared.error.QueryError.{QueryError}
use Rattle.client_request.specs.declared.error.QueryError.TheVariants as query
use Rattle.client_request.specs.declared.error.QueryErrorKind.{QueryErrorKind}
use Rattle.client_request.specs.declared.error.QueryErrorKind.TheVariants as kind
use Rattle.client_request.specs.declared.event.Via.{Via}
use Rattle.client_request.specs.declared.event.Event.{Event}
use Rattle.client_request.specs.declared.event.What.{What}
use Rattle.client_request.specs.declared.event.What.TheVariants as what
use Rattle.client_request.specs.declared.event.Out.{Out}
use Rattle.client_request.specs.declared.event.Out.TheVariants as out
use Rattle.dns_script.specs.declared.names.EventName.{EventName}
use Rattle.dns_script.specs.declared.names.EventName.TheVariants as event_name
use Rattle.dns_script.specs.declared.names.OutName.{OutName}
use Rattle.dns_script.specs.declared.names.OutName.TheVariants as out_name
use Rattle.dns_script.specs.Names.{error_names, event_names, fault_names, kind_names, out_names, via_names}
use Rattle.dns_script.specs.Reading.{◌>>=◌, Reader, one_word, named, number_of, octets_of, pairs}

-- a value of one part
abbrev pub one : {A X : Type 0} → (A → X) → Reader A → Reader X
one make first words = first words >>= (λ a. Some (make a.0, a.1))

-- a value of two parts, one behind the other
abbrev pub two : {A B X : Type 0} → (A → B → X) → Reader A → Reader B → Reader X
two make first second words = first words >>= (λ a. one (make a.0) second a.1)

abbrev pub three : {A B C X : Type 0} → (A → B → C → X) → Reader A → Reader B → Reader C → Reader X
three make first second third words = first words >>= (λ a. two (make a.0) second third a.1)

abbrev pub four : {A B C D X : Type 0} → (A → B → C → D → X) → Reader A → Reader B → Reader C → Reader D → Reader X
four make first second third fourth words = first words >>= (λ a. three (make a.0) second third fourth a.1)

abbrev pub u64_at : Reader ℕ
u64_at = one_word (number_of 18446744073709551615)

abbrev pub u32_at : Reader ℕ
u32_at = one_word (number_of 4294967295)

abbrev pub u16_at : Reader ℕ
u16_at = one_word (number_of 65535)

abbrev pub octets_at : Reader (List ℕ)
octets_at = one_word octets_of

abbrev pub fault_at : Reader Fault
fault_at = one_word (named fault_names)

abbrev pub via_at : Reader Via
via_at = one_word (named via_names)

-- a message has twelve octets at least
abbrev pub message_of : List ℕ → Option (List ℕ)
message_of word = octets_of word >>= (λ octets. if nat_lt (length octets) 12 then None else Some octets)

abbrev pub message_at : Reader (List ℕ)
message_at = one_word message_of

-- a timeout has one fault alone
abbrev pub timeout_of : Fault → Option QueryError
timeout_of fault.Expired = Some query.Timeout
timeout_of _ = None

abbrev pub query_error_behind : QueryErrorKind → Reader QueryError
query_error_behind kind.Connect words = one query.Connect fault_at words
query_error_behind kind.Send words = one query.Send fault_at words
query_error_behind kind.Receive words = one query.Receive fault_at words
query_error_behind kind.Timeout words = fault_at words >>= (λ f. option_map (λ q. (q, f.1)) (timeout_of f.0))

abbrev pub query_error_at : Reader QueryError
query_error_at words = one_word (named kind_names) words >>= (λ k. query_error_behind k.0 k.1)

-- an error whose name has a fault behind it
abbrev pub error_behind : List ℕ → Reader Error
error_behind name words =
    if bytes_eq name (codes "StreamReadError") then one error.StreamReadError fault_at words
    else (if bytes_eq name (codes "StreamWriteError") then one error.StreamWriteError fault_at words
    else (if bytes_eq name (codes "Dgram") then one error.Dgram query_error_at words else None))

-- an error that is its name alone, or has more behind it
abbrev pub error_called : Option Error → List ℕ → Reader Error
error_called (Some e) name words = Some (e, words)
error_called None name words = error_behind name words

abbrev pub error_at : Reader Error
error_at words = one_word (λ name. Some name) words >>= (λ name. error_called (named error_names name.0) name.0 name.1)

abbrev pub result_behind : List ℕ → Reader (Result (List ℕ) Error)
result_behind name words =
    if bytes_eq name (codes "ok") then one Ok message_at words
    else (if bytes_eq name (codes "err") then one Err error_at words else None)

abbrev pub result_at : Reader (Result (List ℕ) Error)
result_at words = one_word (λ name. Some name) words >>= (λ name. result_behind name.0 name.1)

abbrev pub out_behind : OutName → Reader Out
out_behind out_name.Start words = three out.Start u64_at u32_at via_at words
out_behind out_name.OpenDgram words = two out.OpenDgram u64_at u32_at words
out_behind out_name.OpenStream words = two out.OpenStream u64_at u32_at words
out_behind out_name.Send words = four out.Send u64_at u64_at u16_at octets_at words
out_behind out_name.Write words = four out.Write u64_at u64_at u16_at octets_at words
out_behind out_name.Resume words = two out.Resume u64_at octets_at words
out_behind out_name.Close words = one out.Close u64_at words
out_behind out_name.Stale words = one out.Stale u64_at words
out_behind out_name.Reply words = two out.Reply u64_at result_at words

abbrev pub out_at : Reader Out
out_at words = one_word (named out_names) words >>= (λ name. out_behind name.0 name.1)

-- the first four octets of a header
abbrev pub header_of : List ℕ → Option (List ℕ)
header_of word = pairs word >>= (λ octets. if length octets == 4 then Some octets else None)

-- an OPT record, or a hyphen for none
abbrev pub opt_of : List ℕ → Option (Option OptFields)
opt_of word = if bytes_eq word (codes "-") then Some None else octets_of word >>= (λ octets. option_map (λ opt. Some opt) (opt_record octets))

-- a base that may be asked, with what is recorded beside it
unfoldable pub request_of : List ℕ → List ℕ → List ℕ → Option Request
request_of base header word =
    if is_misformed base then None else option_map (λ opt. record { base = base; header = header; opt = opt }) (opt_of word)

abbrev pub request_at : Reader Request
request_at words =
    message_at words >>= (λ base. one_word header_of base.1 >>= (λ header. one_word (request_of base.0 header.0) header.1))

abbrev pub what_behind : EventName → Reader What
what_behind event_name.Ask words = one what.Ask request_at words
what_behind event_name.Opened words = one what.Opened u64_at words
what_behind event_name.OpenFailed words = two what.OpenFailed u64_at fault_at words
what_behind event_name.SendFailed words = two what.SendFailed u64_at fault_at words
what_behind event_name.ShortSend words = one what.ShortSend u64_at words
what_behind event_name.Datagram words = two what.Datagram u64_at octets_at words
what_behind event_name.RecvFailed words = two what.RecvFailed u64_at fault_at words
what_behind event_name.Wrote words = two what.Wrote u64_at u64_at words
what_behind event_name.WriteFailed words = two what.WriteFailed u64_at fault_at words
what_behind event_name.Bytes words = two what.Bytes u64_at octets_at words
what_behind event_name.ReadFailed words = two what.ReadFailed u64_at fault_at words
what_behind event_name.Ended words = one what.Ended u64_at words
what_behind event_name.Tick words = Some (what.Tick, words)

abbrev pub what_at : Reader What
what_at words = one_word (named event_names) words >>= (λ name. what_behind name.0 name.1)

abbrev pub event_from : ℕ → What → Event
event_from moment what = record { moment = record { 0 = moment }; what = what }

-- what stands behind `at`
abbrev pub event_at : Reader Event
event_at = two event_from u64_at what_at

-- the words are these alone
abbrev pub whole : {A : Type 0} → A × List (List ℕ) → Option A
whole read = if length read.1 == 0 then Some read.0 else None
