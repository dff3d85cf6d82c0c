-- Why a server gives a request an error.
use Rattle.std.specs.Prelude.{◌≡◌, ℕ, suc, ◌+◌, ◌≤◌, Bool, true, false, ◌&&◌, ◌==◌, ◌⊎◌, if◌then◌else◌, Option, Some, None, List, [], ◌∷◌}
use Rattle.client_request.specs.Request.{Request}
use Rattle.client_request.specs.declared.error.Error.{Error}
use Rattle.client_request.specs.declared.fault.Fault.{Fault}
use Rattle.client_request.specs.declared.event.What.{What}
use Rattle.client_request.specs.declared.event.What.TheVariants.{OpenFailed, SendFailed, ShortSend, RecvFailed}
use Rattle.client_request.specs.declared.event.Out.{Out}
use Rattle.client_request.specs.declared.event.Out.TheVariants.{Send}
use Rattle.client_request.specs.declared.event.Via.TheVariants.{Dgram, Stream}
use Rattle.right_trace.specs.Trace.{History, Conf, Came, Put}
use Rattle.right_trace.specs.Time.{now, newest, row_before, EarlierRow, read_timeout, stream_timeout, max_tries}
use Rattle.right_trace.specs.Messages.{Octets, CarriesBy, answers, base_is_read, passes_count}
use Rattle.right_trace.specs.Requests.{Asking, asking, start, started}
use Rattle.right_trace.specs.Places.{is_at, Unused, Opening, Alive, Gone, stand, is_live, closed_here}
use Rattle.right_trace.specs.Timers.{ReadTimerIsDue}
use Rattle.right_trace.specs.Exchanges.{Comes}
use Rattle.client_request.specs.declared.error.Error.TheVariants as errors
use Rattle.client_request.specs.declared.error.QueryError.TheVariants as query
use Rattle.client_request.specs.declared.fault.Fault.TheVariants as fault

-- In what follows `past` is what happened before the row, `w` is the row's event, `h` is what happened up to here, the row's event and its outs so far included, and `end` is what happened when the row is done.

-- an out sends request k at a place of server s
abbrev pub is_send_to : (k s : ℕ) → Out → History → Bool
is_send_to k s (Send q j i o) h = (j == k) && is_at Dgram s q h
is_send_to k s _ h = false

-- how often request k was sent to server s
abbrev pub sends : (k s : ℕ) → History → ℕ
sends k s [] = 0
sends k s (Came e ∷ h) = sends k s h
sends k s (Put o ∷ h) = if is_send_to k s o h then suc (sends k s h) else sends k s h

-- a send: where, and when
pub record Try : Type 0 where
  pub place : ℕ
  pub moment : ℕ

-- where and when an out sends
abbrev pub try_of : Out → (n : ℕ) → Option Try
try_of (Send q j i o) n = Some (record { place = q; moment = n })
try_of _ n = None

-- the last send of request k to server s
abbrev pub last_try : (k s : ℕ) → History → Option Try
last_try k s [] = None
last_try k s (Came e ∷ h) = last_try k s h
last_try k s (Put o ∷ h) = if is_send_to k s o h then try_of o (now h) else last_try k s h

-- under which id, and as what, request k was sent at p
pub record Named : Type 0 where
  pub id : ℕ
  pub octets : Octets

abbrev pub named_by : (p k : ℕ) → Out → List Named → List Named
named_by p k (Send q j i o) ns = if (q == p) && (j == k) then record { id = i; octets = o } ∷ ns else ns
named_by p k _ ns = ns

-- all sends at p that named request k
abbrev pub named : (p k : ℕ) → History → List Named
named p k [] = []
named p k (Came e ∷ h) = named p k h
named p k (Put o ∷ h) = named_by p k o (named p k h)

-- it is one of these
abbrev pub IsOneOf : Named → List Named → Type 0
IsOneOf n [] = ⊥
IsOneOf n (x ∷ xs) = (x ≡ n) ⊎ IsOneOf n xs

-- the timeout of the request has passed
pub record DeadlineHasPassed (c : Conf) (k : ℕ) (h : History) : Type 0 where
  pub asking_of : Asking
  pub asked : asking k h ≡ Some asking_of
  pub passed : asking_of.moment + c.timeout ≤ now h

-- the place was opening when the event came, or the row itself opened it
abbrev pub WasOpening : (p : ℕ) (past h : History) → Type 0
WasOpening p past h = (stand p past ≡ Opening) ⊎ ((stand p past ≡ Unused) × (stand p h ≡ Gone))

-- a datagram place of a server that has the request failed to open
pub record FailedToOpen (k : ℕ) (f : Fault) (past : History) (w : What) (h : History) : Type 0 where
  pub place : ℕ
  pub server : ℕ
  pub told : w ≡ OpenFailed place f
  pub was : WasOpening place past h
  pub at : is_at Dgram server place h ≡ true
  pub has_it : started k server Dgram h ≡ true

-- an event tells of a datagram place of a server that has the request; it was alive before this row, and a send there named and carried the request
pub record FailedAt (c : Conf) (told : ℕ → What) (k : ℕ) (past : History) (w : What) : Type 0 where
  pub place : ℕ
  pub server : ℕ
  pub is_told : w ≡ told place
  pub at : is_at Dgram server place past ≡ true
  pub alive : stand place past ≡ Alive
  pub has_it : started k server Dgram past ≡ true
  pub request : Request
  pub asked : (t : ℕ) × (asking k past ≡ Some (record { request = request; moment = t }))
  pub send : Named
  pub named_there : IsOneOf send (named place k past)
  pub carries : CarriesBy c Dgram send.octets request send.id

-- by moment n the request had all its sends at one server, the last of them a read timeout ago or more, at a place that was live before this row
pub record TriesAreUp (c : Conf) (k n : ℕ) (past h : History) : Type 0 where
  pub server : ℕ
  pub all : sends k server h ≡ max_tries c
  pub last : Try
  pub is_last : last_try k server h ≡ Some last
  pub old : last.moment + read_timeout c ≤ n
  pub lived : is_live (stand last.place past) ≡ true

-- the request can't be composed, since it is so
pub record CannotBeComposed (is_so : Request → Bool) (value : Bool) (k : ℕ) (h : History) : Type 0 where
  pub asking_of : Asking
  pub asked : asking k h ≡ Some asking_of
  pub reason : is_so asking_of.request ≡ value

-- a message came by stream on the request's exchange, and does not answer it
pub record CameWrong (c : Conf) (k : ℕ) (past : History) (w : What) (h : History) : Type 0 where
  pub request : Request
  pub server : ℕ
  pub place : ℕ
  pub id : ℕ
  pub message : Octets
  pub comes : Comes c request Stream server place k id message past w h
  pub differs : answers request id message ≡ false

-- in the row that is done here a message came by stream from server s for request k, and its place was not closed by its read timer
pub record Heard (c : Conf) (k s : ℕ) (end : History) : Type 0 where
  pub request : Request
  pub place : ℕ
  pub id : ℕ
  pub message : Octets
  pub comes : Comes c request Stream s place k id message (row_before end) (newest end) end
  pub taken : (closed_here place end ≡ true) → ReadTimerIsDue c place (now end) (row_before end) → ⊥

-- by moment n the timeout by stream passed since the request was handed to some server by stream, and no message has come since
pub record StreamIsSilent (c : Conf) (k n : ℕ) (past : History) : Type 0 where
  pub server : ℕ
  pub begun : ℕ
  pub is_begun : start k server Stream past ≡ Some begun
  pub passed : begun + stream_timeout c ≤ n
  pub silent : (Heard c k server past ⊎ EarlierRow (Heard c k server) past) → ⊥

-- An error that a server gives request k in this row has its cause in it.
pub data ServerCause (c : Conf) (k : ℕ) (past : History) (w : What) (h : History) : Error → Type 0 where
  NotOpened : (f : Fault) → FailedToOpen k f past w h → ServerCause c k past w h (errors.Dgram (query.Connect f))
  NotSent : (f : Fault) → FailedAt c (λ p. SendFailed p f) k past w → ServerCause c k past w h (errors.Dgram (query.Send f))
  SentShort : FailedAt c ShortSend k past w → ServerCause c k past w h (errors.Dgram (query.Send fault.ShortSend))
  NotReceived : (f : Fault) → FailedAt c (λ p. RecvFailed p f) k past w → ServerCause c k past w h (errors.Dgram (query.Receive f))
  NoAnswer : TriesAreUp c k (now h) past h → ServerCause c k past w h (errors.Dgram query.Timeout)
  WrongReply : CameWrong c k past w h → ServerCause c k past w h errors.WrongReplyForQuery
  StreamSilence : StreamIsSilent c k (now h) past → ServerCause c k past w h errors.StreamReadTimeout
  NotRead : CannotBeComposed base_is_read false k h → ServerCause c k past w h errors.MessageParseError
  NotComposed : CannotBeComposed passes_count true k h → ServerCause c k past w h errors.MessageBuilderPushError
