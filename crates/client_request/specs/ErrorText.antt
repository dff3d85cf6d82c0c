-- The texts of errors.
use Rattle.std.specs.Prelude.{ℕ, List, ◌++◌, codes}
use Rattle.dns_base.specs.declared.push_error.PushError.TheVariants as refusals
use Rattle.client_request.specs.Fault.{fault_text}
use Rattle.client_request.specs.declared.fault.Fault.{Fault}
use Rattle.client_request.specs.declared.fault.Fault.TheVariants.{Expired}
use Rattle.client_request.specs.declared.error.Error.{Error}
use Rattle.client_request.specs.declared.error.Error.TheVariants as errors
use Rattle.client_request.specs.declared.error.QueryError.{QueryError}
use Rattle.client_request.specs.declared.error.QueryError.TheVariants as queries
use Rattle.client_request.specs.declared.error.QueryErrorKind.{QueryErrorKind}
use Rattle.client_request.specs.declared.error.QueryErrorKind.TheVariants as kinds
use Rattle.client_request.specs.declared.error.CopyRecordsError.{CopyRecordsError}
use Rattle.client_request.specs.declared.error.CopyRecordsError.TheVariants as copying

abbrev pub kind_of : QueryError → QueryErrorKind
kind_of (queries.Connect fault) = kinds.Connect
kind_of (queries.Send fault) = kinds.Send
kind_of (queries.Receive fault) = kinds.Receive
kind_of queries.Timeout = kinds.Timeout

-- the fault, which is that of a late answer where none came
abbrev pub fault_of : QueryError → Fault
fault_of (queries.Connect fault) = fault
fault_of (queries.Send fault) = fault
fault_of (queries.Receive fault) = fault
fault_of queries.Timeout = Expired

abbrev pub kind_text : QueryErrorKind → List ℕ
kind_text kinds.Connect = codes "connecting failed"
kind_text kinds.Send = codes "sending request failed"
kind_text kinds.Timeout = codes "request timeout"
kind_text kinds.Receive = codes "reading response failed"

-- what was being done
abbrev pub step_text : QueryError → List ℕ
step_text (queries.Connect fault) = codes "connecting failed"
step_text (queries.Send fault) = codes "sending request failed"
step_text (queries.Receive fault) = codes "reading response failed"
step_text queries.Timeout = codes "reading response failed"

abbrev pub query_error_text : QueryError → List ℕ
query_error_text error = step_text error ++ codes ": " ++ fault_text (fault_of error)

abbrev pub copy_error_text : CopyRecordsError → List ℕ
copy_error_text (copying.Parse error) = codes "message can't be read"
copy_error_text (copying.Push refusals.Count) = codes "section is full"
copy_error_text (copying.Push refusals.Limit) = codes "message passes its limit"
copy_error_text (copying.Push refusals.NoMemory) = codes "out of memory"

-- without what it holds
abbrev pub plain_text : Error → List ℕ
plain_text errors.ConnectionClosed = codes "connection closed"
plain_text errors.OptTooLong = codes "OPT record is too long"
plain_text errors.MessageBuilderPushError = codes "PushError from MessageBuilder"
plain_text errors.MessageParseError = codes "ParseError from Message"
plain_text errors.RedundantTransportNotFound = codes "Underlying transport not found in redundant connection"
plain_text errors.FormError = codes "message violates a constraint"
plain_text errors.ShortMessage = codes "octet sequence to short to be a valid message"
plain_text errors.StreamLongMessage = codes "message too long for stream transport"
plain_text errors.StreamIdleTimeout = codes "stream was idle for too long"
plain_text errors.StreamReceiveError = codes "error receiving a reply"
plain_text (errors.StreamReadError fault) = codes "error reading from stream"
plain_text errors.StreamReadTimeout = codes "timeout reading from stream"
plain_text errors.StreamTooManyOutstandingQueries = codes "too many outstanding queries on stream"
plain_text (errors.StreamWriteError fault) = codes "error writing to stream"
plain_text errors.StreamUnexpectedEndOfData = codes "unexpected end of data"
plain_text errors.WrongReplyForQuery = codes "reply does not match query"
plain_text errors.NoTransportAvailable = codes "no transport available"
plain_text (errors.Dgram error) = codes "dgram error"
plain_text errors.NoMemory = codes "out of memory"
plain_text errors.NumbersUsed = codes "numbers are used up"
plain_text errors.TimedOut = codes "request timed out"
plain_text errors.AlreadyDone = codes "already done"
plain_text errors.Failed = codes "an earlier step was refused"

abbrev pub error_text : Error → List ℕ
error_text (errors.Dgram error) = codes "dgram error: " ++ query_error_text error
error_text error = plain_text error
