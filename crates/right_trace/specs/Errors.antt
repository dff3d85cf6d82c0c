-- Why a request gets an error: by a server, by the client, by the cache.
use Rattle.right_trace.specs.Causes.{ServerCause, DeadlineHasPassed}
use Rattle.std.specs.Prelude.{◌≡◌, ℕ, ◌+◌, ◌≤◌, Bool, true, false, ◌||◌, None, ◌∷◌, length, Err, Result, Ok}
use Rattle.client_request.specs.Request.{Request}
use Rattle.client_request.specs.declared.error.Error.{Error}
use Rattle.client_request.specs.declared.event.What.{What}
use Rattle.client_request.specs.declared.event.Out.TheVariants.{Reply}
use Rattle.client_request.specs.declared.event.Via.{Via}
use Rattle.right_trace.specs.Trace.{History, Conf, Put}
use Rattle.right_trace.specs.Time.{now, row_before, Ever, EarlierRow, OfRow, newest}
use Rattle.right_trace.specs.Messages.{Octets}
use Rattle.right_trace.specs.Requests.{is_asked_here}
use Rattle.right_trace.specs.Exchanges.{Matches}
use Rattle.right_trace.specs.Settings.{Settings}
use Rattle.right_trace.specs.Keys.{is_cacheable}
use Rattle.right_trace.specs.Validity.{validity_of_message, is_deferred}
use Rattle.right_trace.specs.Replies.{CoversLater, IsFresh}
use Rattle.right_trace.specs.Views.{is_failing_message}
use Rattle.right_trace.specs.Owed.{AllAreDone}
use Rattle.right_trace.specs.Coming.{CameFirst, NoneCame}
use Rattle.client_request.specs.declared.error.Error.TheVariants as errors

-- In what follows `past` is what happened before the row, `w` is the row's event, `h` is what happened up to here, the row's event and its outs so far included, and `end` is what happened when the row is done.

-- something was so in this row; or, where that may be kept back, in one since the asking of request k
pub data HereOrEarlier (may_wait : Bool) (P : (past : History) → What → History → Type 0) (past : History) (w : What) (h : History) : Type 0 where
  Here : P past w h → HereOrEarlier may_wait P past w h
  Earlier : may_wait ≡ true → EarlierRow (OfRow P) h → HereOrEarlier may_wait P past w h

-- a message came for a cacheable request and matches it, and it has no validity
pub record CameWithoutValidity (c : Conf) (s : Settings) (k : ℕ) (m : Octets) (past : History) (w : What) (h : History) : Type 0 where
  pub request : Request
  pub via : Via
  pub server : ℕ
  pub place : ℕ
  pub id : ℕ
  pub cacheable : is_cacheable request ≡ true
  pub matches : Matches c request via server place k id m past w h
  pub none : validity_of_message s m ≡ None

-- the causes that are no kept error
pub data DirectCause (c : Conf) (s : Settings) (k : ℕ) (past : History) (w : What) (h : History) : Error → Type 0 where
  Deadline : DeadlineHasPassed c k h → DirectCause c s k past w h errors.TimedOut
  NoServer : length c.servers ≡ 0 → is_asked_here k h ≡ true → DirectCause c s k past w h errors.NoTransportAvailable
  ByServer : (e : Error) → HereOrEarlier s.defers_errors (λ past w h. ServerCause c k past w h e) past w h → DirectCause c s k past w h e
  NoValidity : (m : Octets) → HereOrEarlier (is_deferred s m) (CameWithoutValidity c s k m) past w h → DirectCause c s k past w h errors.MessageParseError

-- the one error that is never kept
abbrev pub is_deadline : Error → Bool
is_deadline errors.TimedOut = true
is_deadline _ = false

-- the newest out is request q's reply with this error, by its own cause, at this moment
pub record IsErrorReply (c : Conf) (s : Settings) (q : ℕ) (x : Error) (moment : ℕ) (h : History) : Type 0 where
  pub before : History
  pub put : h ≡ (Put (Reply q (Err x)) ∷ before)
  pub cause : DirectCause c s q (row_before before) (newest before) before x
  pub at : now h ≡ moment

-- an earlier request that covers request k got this error, not long ago
pub record IsKeptError (c : Conf) (s : Settings) (x : Error) (k : ℕ) (h : History) : Type 0 where
  pub asked_here : is_asked_here k h ≡ true
  pub is_kept_at_all : is_deadline x ≡ false
  pub number : ℕ
  pub first : Request
  pub request : Request
  pub earlier : CoversLater k number first request h
  pub moment : ℕ
  pub got : Ever (IsErrorReply c s number x moment) h
  pub recent : now h ≤ moment + s.transport_failure_duration

-- an error that only a server gives
abbrev pub is_of_server : Error → Bool
is_of_server (errors.Dgram e) = true
is_of_server errors.WrongReplyForQuery = true
is_of_server errors.StreamReadTimeout = true
is_of_server _ = false

-- an error for which an expired message may stand: a server's, or that of the deadline
abbrev pub is_failure : Error → Bool
is_failure e = is_deadline e || is_of_server e

-- a result for which an expired message may stand
abbrev pub is_failing : Result Octets Error → Bool
is_failing (Ok m) = is_failing_message m
is_failing (Err e) = is_failure e

-- A cause of its own; a deferred error stands only when every server is done with the request, and no message came.
pub record OwnCause (c : Conf) (s : Settings) (e : Error) (k : ℕ) (past : History) (w : What) (h : History) : Type 0 where
  pub direct : DirectCause c s k past w h e
  pub last : is_of_server e ≡ true → s.defers_errors ≡ true → AllAreDone c k past w h × NoneCame c k past w h

-- Why a result of request k fails: an error has its own cause; a message is fresh, and where it is deferred every server is done with the request, and it is the first that came.
abbrev pub FailsSo : (c : Conf) (s : Settings) (k : ℕ) (past : History) (w : What) (h : History) → Result Octets Error → Type 0
FailsSo c s k past w h (Ok m) = IsFresh c s k m past w h × (is_deferred s m ≡ true → AllAreDone c k past w h × CameFirst c k m past w h)
FailsSo c s k past w h (Err e) = OwnCause c s e k past w h

-- An error has its own cause or is kept; a deferred one that is not kept is given only when every server is done with the request, and no message came.
pub data HasCause (c : Conf) (s : Settings) (e : Error) (k : ℕ) (past : History) (w : What) (h : History) : Type 0 where
  Own : DirectCause c s k past w h e → (is_of_server e ≡ true → s.defers_errors ≡ true → AllAreDone c k past w h × NoneCame c k past w h) → HasCause c s e k past w h
  Kept : IsKeptError c s e k h → HasCause c s e k past w h
