-- Errors as numbers, by which two are told apart.
use Rattle.std.specs.Prelude.{ℕ, ◌==◌, ◌&&◌, Bool}
use Rattle.client_request.specs.declared.error.{Error.Error, QueryError.QueryError}
use Rattle.client_request.specs.declared.error.Error.TheVariants as errors
use Rattle.client_request.specs.declared.error.QueryError.TheVariants as query
use Rattle.client_request.specs.declared.fault.Fault.{Fault}
use Rattle.client_request.specs.declared.fault.Fault.TheVariants as fault

-- of a fault, from 0
abbrev pub fault_number : Fault → ℕ
fault_number fault.Refused = 0
fault_number fault.Reset = 1
fault_number fault.Unreachable = 2
fault_number fault.InUse = 3
fault_number fault.Broken = 4
fault_number fault.Other = 5
fault_number fault.Expired = 6
fault_number fault.ShortSend = 7
fault_number fault.NothingTaken = 8
fault_number fault.EndOfData = 9

-- of what was being done, and of its fault
abbrev pub query_number : QueryError → ℕ
query_number (query.Connect f) = 0
query_number (query.Send f) = 1
query_number (query.Receive f) = 2
query_number query.Timeout = 3

abbrev pub query_fault : QueryError → ℕ
query_fault (query.Connect f) = fault_number f
query_fault (query.Send f) = fault_number f
query_fault (query.Receive f) = fault_number f
query_fault query.Timeout = 0

-- of an error, of what was being done, and of its fault
abbrev pub kind_number : Error → ℕ
kind_number errors.ConnectionClosed = 0
kind_number errors.OptTooLong = 1
kind_number errors.MessageBuilderPushError = 2
kind_number errors.MessageParseError = 3
kind_number errors.RedundantTransportNotFound = 4
kind_number errors.FormError = 5
kind_number errors.ShortMessage = 6
kind_number errors.StreamLongMessage = 7
kind_number errors.StreamIdleTimeout = 8
kind_number errors.StreamReceiveError = 9
kind_number (errors.StreamReadError f) = 10
kind_number errors.StreamReadTimeout = 11
kind_number errors.StreamTooManyOutstandingQueries = 12
kind_number (errors.StreamWriteError f) = 13
kind_number errors.StreamUnexpectedEndOfData = 14
kind_number errors.WrongReplyForQuery = 15
kind_number errors.NoTransportAvailable = 16
kind_number (errors.Dgram q) = 17
kind_number errors.NoMemory = 18
kind_number errors.NumbersUsed = 19
kind_number errors.TimedOut = 20
kind_number errors.AlreadyDone = 21
kind_number errors.Failed = 22

abbrev pub doing_number : Error → ℕ
doing_number (errors.Dgram q) = query_number q
doing_number _ = 0

abbrev pub with_number : Error → ℕ
with_number (errors.Dgram q) = query_fault q
with_number (errors.StreamReadError f) = fault_number f
with_number (errors.StreamWriteError f) = fault_number f
with_number _ = 0

abbrev pub same_error : Error → Error → Bool
same_error a b = (kind_number a == kind_number b) && ((doing_number a == doing_number b) && (with_number a == with_number b))
