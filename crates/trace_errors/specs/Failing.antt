-- Errors that are kept where servers give them.
use Rattle.client_request.specs.declared.error.Error.{Error}
use Rattle.client_request.specs.declared.error.Error.TheVariants as errors
use Rattle.client_request.specs.declared.error.QueryError.TheVariants as query
use Rattle.trace_errors.specs.declared.failing.Failing.{Failing}
use Rattle.trace_errors.specs.declared.failing.Failing.TheVariants.{Sending, Receiving, Lost, Wrong, Silent}

abbrev pub error_of : Failing → Error
error_of (Sending f) = errors.Dgram (query.Send f)
error_of (Receiving f) = errors.Dgram (query.Receive f)
error_of Lost = errors.Dgram query.Timeout
error_of Wrong = errors.WrongReplyForQuery
error_of Silent = errors.StreamReadTimeout
