-- Whether a reply lets its request fail, so that what has expired should have stood in its place (RFC 8767 4).
use Rattle.std.specs.Prelude.{ℕ, ◌==◌, ◌&&◌, ◌||◌, not, Bool, true, false, List, Some, Result, Ok, Err}
use Rattle.std.specs.List.{list_any}
use Rattle.client_request.specs.declared.error.Error.{Error}
use Rattle.client_request.specs.declared.error.Error.TheVariants as errors
use Rattle.client_request.specs.declared.event.What.{What}
use Rattle.right_trace.specs.{Trace.Conf, Messages.Octets, Settings.Settings, Requests.Asking, Views.is_failing_message, Errors.is_failure}
use Rattle.trace_tables.specs.Requests.{marked_seen}
use Rattle.trace_points.specs.declared.exchanges.coming.Coming.{Coming}
use Rattle.trace_points.specs.exchanges.Coming.{coming}
use Rattle.trace_points.specs.declared.pass.pass.Pass.{Pass}
use Rattle.trace_errors.specs.{Arrivals.is_unkept, Direct.asked_here}

-- what came is for request k, does not fail, and has no validity
abbrev pub is_unread : Settings → (k : ℕ) → List (ℕ × Asking) → Coming → Bool
is_unread v k askings x = (x.request == k) && (not (is_failing_message x.message) && is_unkept v askings x)

-- some message is so that came in the row: p is known before it, and q where it is asked
abbrev pub came_unread : Conf → Settings → (p q : Pass) → (k : ℕ) → Bool
came_unread c v p q k = list_any (is_unread v k p.ledger.books.requests.askings) (coming c (Some k) p.ledger.books p.sends q.ledger)

-- request k fails by a message, in a row with this event
abbrev pub message_fails : (p q : Pass) → What → (k : ℕ) → Octets → Bool
message_fails p q w k m = is_failing_message m && (not (marked_seen k q.ledger.books.requests) && not (asked_here k w p.ledger.books))

abbrev pub is_unreadable : Error → Bool
is_unreadable errors.MessageParseError = true
is_unreadable _ = false

-- request k fails by an error
abbrev pub error_fails : Conf → Settings → (p q : Pass) → What → (k : ℕ) → Error → Bool
error_fails c v p q w k e = is_failure e || (is_unreadable e && (not (asked_here k w p.ledger.books) && not (came_unread c v p q k)))

-- request k fails by a reply
abbrev pub fails_by : Conf → Settings → (p q : Pass) → What → (k : ℕ) → Result Octets Error → Bool
fails_by c v p q w k (Ok m) = message_fails p q w k m
fails_by c v p q w k (Err e) = error_fails c v p q w k e
