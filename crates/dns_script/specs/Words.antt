-- The words of a line: octets as hexadecimal digits, faults and errors.
use Rattle.std.specs.Prelude.{ℕ, ◌/◌, ◌%◌, List, [], ◌∷◌, codes}
use Rattle.std.specs.Char.{digit_char}
use Rattle.std.specs.List.{flat_map}
use Rattle.client_request.specs.declared.fault.Fault.{Fault}
use Rattle.client_request.specs.declared.fault.Fault.TheVariants as fault
use Rattle.client_request.specs.declared.error.QueryError.{QueryError}
use Rattle.client_request.specs.declared.error.QueryError.TheVariants as query
use Rattle.client_request.specs.declared.error.Error.{Error}
use Rattle.client_request.specs.declared.error.Error.TheVariants as error
use Rattle.client_request.specs.declared.event.Via.{Via}
use Rattle.client_request.specs.declared.event.Via.TheVariants.{Dgram, Stream}

-- two lower-case hexadecimal digits
abbrev pub octet_digits : ℕ → List ℕ
octet_digits octet = digit_char (octet / 16) ∷ digit_char (octet % 16) ∷ []

-- two digits for each octet, and a hyphen for no octet
abbrev pub hex_word : List ℕ → List ℕ
hex_word [] = codes "-"
hex_word (octet ∷ octets) = flat_map octet_digits (octet ∷ octets)

abbrev pub via_word : Via → List ℕ
via_word Dgram = codes "dgram"
via_word Stream = codes "stream"

abbrev pub fault_word : Fault → List ℕ
fault_word fault.Refused = codes "refused"
fault_word fault.Reset = codes "reset"
fault_word fault.Unreachable = codes "unreachable"
fault_word fault.InUse = codes "in-use"
fault_word fault.Broken = codes "broken"
fault_word fault.Other = codes "other"
fault_word fault.Expired = codes "expired"
fault_word fault.ShortSend = codes "short-send"
fault_word fault.NothingTaken = codes "nothing-taken"
fault_word fault.EndOfData = codes "end-of-data"

-- what a datagram try was doing, and its fault
abbrev pub query_error_words : QueryError → List (List ℕ)
query_error_words (query.Connect f) = codes "Connect" ∷ fault_word f ∷ []
query_error_words (query.Send f) = codes "Send" ∷ fault_word f ∷ []
query_error_words (query.Receive f) = codes "Receive" ∷ fault_word f ∷ []
query_error_words query.Timeout = codes "Timeout" ∷ fault_word fault.Expired ∷ []

-- the first word of an error
abbrev pub error_name : Error → List ℕ
error_name error.ConnectionClosed = codes "ConnectionClosed"
error_name error.OptTooLong = codes "OptTooLong"
error_name error.MessageBuilderPushError = codes "MessageBuilderPushError"
error_name error.MessageParseError = codes "MessageParseError"
error_name error.RedundantTransportNotFound = codes "RedundantTransportNotFound"
error_name error.FormError = codes "FormError"
error_name error.ShortMessage = codes "ShortMessage"
error_name error.StreamLongMessage = codes "StreamLongMessage"
error_name error.StreamIdleTimeout = codes "StreamIdleTimeout"
error_name error.StreamReceiveError = codes "StreamReceiveError"
error_name (error.StreamReadError _) = codes "StreamReadError"
error_name error.StreamReadTimeout = codes "StreamReadTimeout"
error_name error.StreamTooManyOutstandingQueries = codes "StreamTooManyOutstandingQueries"
error_name (error.StreamWriteError _) = codes "StreamWriteError"
error_name error.StreamUnexpectedEndOfData = codes "StreamUnexpectedEndOfData"
error_name error.WrongReplyForQuery = codes "WrongReplyForQuery"
error_name error.NoTransportAvailable = codes "NoTransportAvailable"
error_name (error.Dgram _) = codes "Dgram"
error_name error.NoMemory = codes "NoMemory"
error_name error.NumbersUsed = codes "NumbersUsed"
error_name error.TimedOut = codes "TimedOut"
error_name error.AlreadyDone = codes "AlreadyDone"
error_name error.Failed = codes "Failed"

-- the words behind it: the fault, where there is one
abbrev pub error_detail : Error → List (List ℕ)
error_detail (error.StreamReadError f) = fault_word f ∷ []
error_detail (error.StreamWriteError f) = fault_word f ∷ []
error_detail (error.Dgram q) = query_error_words q
error_detail _ = []

abbrev pub error_words : Error → List (List ℕ)
error_words e = error_name e ∷ error_detail e
