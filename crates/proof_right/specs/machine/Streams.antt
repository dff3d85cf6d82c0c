-- One server by streams, as small moves: connections, ids, frames, timers, back-offs. Which request is handed on first, how long it backs off, and in what order timers that are due fire is left open. The plain client's steps are chains of these moves.
use Rattle.std.specs.Prelude.{◌≡◌, ◌≢◌, ℕ, ◌+◌, ◌-◌, ◌<◌, ◌≤◌, ◌==◌, Bool, true, false, is_some, if◌then◌else◌, Option, Some, None, length, Result, Ok, Err}
use Rattle.client_request.specs.Request.{Request}
use Rattle.client_request.specs.declared.error.Error.{Error}
use Rattle.client_request.specs.declared.fault.Fault.{Fault}
use Rattle.client_request.specs.declared.event.What.{What}
use Rattle.client_request.specs.declared.event.What.TheVariants.{Opened, OpenFailed, SendFailed, ShortSend, RecvFailed, Wrote, Bytes}
use Rattle.client_request.specs.declared.event.Out.{Out}
use Rattle.client_request.specs.declared.event.Out.TheVariants.{OpenStream, Write, Resume, Close}
use Rattle.right_trace.specs.Trace.{Conf}
use Rattle.right_trace.specs.Time.{response_timeout, idle_timeout, stream_timeout, back_off, id_count, all_ids, count_below}
use Rattle.right_trace.specs.Messages.{Octets, CarriesInFrame, answers, is_valid, id_in, keepalive_of}
use Rattle.right_trace.specs.Places.{is_told}
use Rattle.right_trace.specs.Frames.{Reading, Length, fed, is_bad}
use Rattle.right_trace.specs.Writes.{Written}
use Rattle.right_trace.specs.Timers.{told_idle}
use Rattle.client_request.specs.declared.error.Error.TheVariants as errors
use Rattle.right_trace.specs.Updates.{with_at}

-- Where a request is: it is to be handed on, waits for the place that opens, is queued at a connection, was written there under an id, is to back off, or backs off until a moment.
pub data Phase : Type 0 where
  Free : Phase
  Expecting : Phase
  Lined : (place : ℕ) → Phase
  Holding : (place : ℕ) → (id : ℕ) → Phase
  Broken : Phase
  BackingOff : (until : ℕ) → Phase

-- a request that waits for its result: what was asked, since when it is sent, and where it is
pub record Asker : Type 0 where
  pub request : Request
  pub since : ℕ
  pub phase : Phase

-- whether a connection works for a request, since when, or is idle, since when
pub data Mode : Type 0 where
  New : Mode
  Active : (since : ℕ) → Mode
  Idle : (since : ℕ) → Mode

-- A connection that is open: the ids in use, how many octets of its last frame are still to be written, how long it may be idle, what of a frame came; and whether an event was taken in this row after which nothing is written here.
pub record Conn : Type 0 where
  pub ids : ℕ → Option Written
  pub left : ℕ
  pub idle : ℕ
  pub mode : Mode
  pub got : Reading
  pub heard : Bool

-- all connections to one server; `calm` is the moment until which none is opened
pub record Multi : Type 0 where
  pub asks : ℕ → Option Asker
  pub conns : ℕ → Option Conn
  pub opening : Option ℕ
  pub calm : ℕ

abbrev pub no_connection : Multi
no_connection = record { asks = λ k. None; conns = λ p. None; opening = None; calm = 0 }

abbrev pub new_conn : Conf → Conn
new_conn c = record { ids = λ id. None; left = 0; idle = idle_timeout c; mode = New; got = Length; heard = false }

-- what a move does: it puts something out, gives a request its result, or neither
pub data Act : Type 0 where
  Puts : Out → Act
  Gives : (k : ℕ) → Result Octets Error → Act
  Nothing : Act

abbrev pub moved : Asker → Phase → Asker
moved a phase = record { request = a.request; since = a.since; phase = phase }

-- request k goes on to this phase
abbrev pub move : (k : ℕ) → Asker → Phase → Multi → Multi
move k a phase m = record m { asks = with_at k (Some (moved a phase)) m.asks }

-- request k is no more
abbrev pub drop : (k : ℕ) → Multi → Multi
drop k m = record m { asks = with_at k None m.asks }

abbrev pub set_conn : (p : ℕ) → Conn → Multi → Multi
set_conn p x m = record m { conns = with_at p (Some x) m.conns }

-- A connection ends: who was queued or written there is to back off.
abbrev pub broken_at : (p : ℕ) → Phase → Phase
broken_at p (Lined q) = if q == p then Broken else Lined q
broken_at p (Holding q id) = if q == p then Broken else Holding q id
broken_at p x = x

abbrev pub every : (Phase → Phase) → Option Asker → Option Asker
every f None = None
every f (Some a) = Some (moved a (f a.phase))

abbrev pub end_at : (p : ℕ) → Multi → Multi
end_at p m = record m { conns = with_at p None m.conns; asks = λ k. every (broken_at p) (m.asks k) }

-- who waited for the place that opens
abbrev pub expected : Phase → Phase → Phase
expected to Expecting = to
expected to x = x

abbrev pub open_at : (c : Conf) (p : ℕ) → Multi → Multi
open_at c p m = record { asks = λ k. every (expected Free) (m.asks k); conns = with_at p (Some (new_conn c)) m.conns; opening = None; calm = m.calm }

abbrev pub not_opened : (calm : ℕ) → Multi → Multi
not_opened calm m = record { asks = λ k. every (expected Broken) (m.asks k); conns = m.conns; opening = None; calm = calm }

-- a connection takes a request at moment n
abbrev pub taking : Mode → (n : ℕ) → Mode
taking (Active since) n = Active since
taking x n = Active n

abbrev pub written_on : (id k n : ℕ) → Octets → Conn → Conn
written_on id k n o x = record x { ids = with_at id (Some (record { request = k; octets = o; moment = n })) x.ids; left = length o; mode = taking x.mode n }

abbrev pub taken_on : (n : ℕ) → Conn → Conn
taken_on n x = record x { mode = taking x.mode n }

-- all ids are in use
abbrev pub IsFull : Conn → Type 0
IsFull x = id_count ≤ count_below (λ id. is_some (x.ids id)) all_ids

-- how many octets are left when n were taken
abbrev pub wrote_on : (n : ℕ) → Conn → Conn
wrote_on n x = record x { left = x.left - n }

abbrev pub heard_on : Conn → Conn
heard_on x = record x { heard = true }

abbrev pub fed_by : Octets → Conn → Conn
fed_by o x = record x { got = (fed x.got o).left; heard = true }

-- a frame frees its id, may say how long the connection may be idle, and leaves it in this mode
abbrev pub framed : Octets → Mode → Conn → Conn
framed f mode x = record x { ids = with_at (id_in f) None x.ids; idle = told_idle (keepalive_of f) x.idle; mode = mode }

-- what a frame is for a request
abbrev pub result_of : Request → (id : ℕ) → Octets → Result Octets Error
result_of r id f = if answers r id f then Ok f else Err errors.WrongReplyForQuery

-- why a connection that took a frame stays active
pub data StaysActive (m : Multi) (p : ℕ) (x : Conn) : Type 0 where
  SomeIdHeld : (id : ℕ) (y : Written) → x.ids id ≡ Some y → StaysActive m p x
  SomeoneLined : (k : ℕ) (a : Asker) → m.asks k ≡ Some a → a.phase ≡ Lined p → 0 < x.left → StaysActive m p x

-- the mode that a frame with an id in use leaves at moment n
pub data LeavesMode (m : Multi) (p : ℕ) (x : Conn) (n : ℕ) : Mode → Type 0 where
  Stays : StaysActive m p x → LeavesMode m p x n (Active n)
  Rests : ((id : ℕ) → x.ids id ≡ None) → LeavesMode m p x n (Idle n)

-- Moves at any time: of server s, at moment n, `next` being the next place.
pub data Moves (c : Conf) (s n next : ℕ) (m : Multi) : Act → Multi → Type 0 where
  -- a request is handed on
  Joins : (k : ℕ) (a : Asker) (p : ℕ) (x : Conn) → m.asks k ≡ Some a → a.phase ≡ Free → m.conns p ≡ Some x → Moves c s n next m Nothing (move k a (Lined p) m)
  Expects : (k : ℕ) (a : Asker) (p : ℕ) → m.asks k ≡ Some a → a.phase ≡ Free → m.opening ≡ Some p → Moves c s n next m Nothing (move k a Expecting m)
  Opens : (k : ℕ) (a : Asker) → m.asks k ≡ Some a → a.phase ≡ Free → m.opening ≡ None → ((p : ℕ) (x : Conn) → m.conns p ≡ Some x → IsFull x) → Moves c s n next m (Puts (OpenStream next s)) (record (move k a Expecting m) { opening = Some next })
  Meets : (k : ℕ) (a : Asker) (until : ℕ) → m.asks k ≡ Some a → a.phase ≡ Free → n < m.calm → n < until → until < n + back_off → Moves c s n next m Nothing (move k a (BackingOff until) m)
  BacksOff : (k : ℕ) (a : Asker) (until : ℕ) → m.asks k ≡ Some a → a.phase ≡ Broken → n < until → until < n + back_off → Moves c s n next m Nothing (move k a (BackingOff until) m)
  -- a connection takes a request
  Writes : (k : ℕ) (a : Asker) (p : ℕ) (x : Conn) (id : ℕ) (o : Octets) → m.asks k ≡ Some a → a.phase ≡ Lined p → m.conns p ≡ Some x → x.left ≡ 0 → x.heard ≡ false → x.ids id ≡ None → CarriesInFrame o a.request id → 0 < length o
      → Moves c s n next m (Puts (Write p k id o)) (set_conn p (written_on id k n o x) (move k a (Holding p id) m))
  CannotWrite : (k : ℕ) (a : Asker) (p : ℕ) (x : Conn) → m.asks k ≡ Some a → a.phase ≡ Lined p → m.conns p ≡ Some x → x.left ≡ 0 → is_valid a.request ≡ false → Moves c s n next m Nothing (set_conn p (taken_on n x) (move k a Broken m))
  FindsNoId : (k : ℕ) (a : Asker) (p : ℕ) (x : Conn) → m.asks k ≡ Some a → a.phase ≡ Lined p → m.conns p ≡ Some x → x.left ≡ 0 → IsFull x → Moves c s n next m Nothing (move k a Broken m)
  -- timers
  GoesOn : (k : ℕ) (a : Asker) (until : ℕ) → m.asks k ≡ Some a → a.phase ≡ BackingOff until → until ≤ n → Moves c s n next m Nothing (move k a Free m)
  TimesOut : (k : ℕ) (a : Asker) → m.asks k ≡ Some a → a.since + stream_timeout c ≤ n → Moves c s n next m (Gives k (Err errors.StreamReadTimeout)) (drop k m)
  ReadsNothing : (p : ℕ) (x : Conn) (since : ℕ) → m.conns p ≡ Some x → x.mode ≡ Active since → since + response_timeout c < n → Moves c s n next m (Puts (Close p)) (end_at p m)
  RestsTooLong : (p : ℕ) (x : Conn) (since : ℕ) → m.conns p ≡ Some x → x.mode ≡ Idle since → since + x.idle ≤ n → ((k : ℕ) (a : Asker) → m.asks k ≡ Some a → a.phase ≡ Lined p → 0 < x.left) → Moves c s n next m (Puts (Close p)) (end_at p m)

-- What an event does at moment n, but for frames.
pub data Takes (c : Conf) (n : ℕ) (m : Multi) : What → Act → Multi → Type 0 where
  ItOpens : (p : ℕ) → m.opening ≡ Some p → Takes c n m (Opened p) Nothing (open_at c p m)
  ItDoesNotOpen : (p : ℕ) (f : Fault) (calm : ℕ) → m.opening ≡ Some p → calm < n + back_off → Takes c n m (OpenFailed p f) Nothing (not_opened calm m)
  ItFails : (w : What) (p : ℕ) (x : Conn) → m.conns p ≡ Some x → is_told p w ≡ true → Takes c n m w (Puts (Close p)) (end_at p m)
  SomeWritten : (p b : ℕ) (x : Conn) (o : Octets) → m.conns p ≡ Some x → b < x.left → Takes c n m (Wrote p b) (Puts (Resume p o)) (set_conn p (wrote_on b x) m)
  AllWritten : (p b : ℕ) (x : Conn) → m.conns p ≡ Some x → 0 < x.left → x.left ≤ b → Takes c n m (Wrote p b) Nothing (set_conn p (wrote_on b x) m)
  NothingToWrite : (p b : ℕ) (x : Conn) → m.conns p ≡ Some x → x.left ≡ 0 → Takes c n m (Wrote p b) Nothing (set_conn p (heard_on x) m)
  OctetsCome : (p : ℕ) (o : Octets) (x : Conn) → m.conns p ≡ Some x → Takes c n m (Bytes p o) Nothing (set_conn p (fed_by o x) m)

-- the event is about nothing that this server has
abbrev pub IsForeign : What → Multi → Type 0
IsForeign (Opened p) m = m.opening ≢ Some p
IsForeign (OpenFailed p f) m = m.opening ≢ Some p
IsForeign (Wrote p c) m = m.conns p ≡ None
IsForeign (Bytes p o) m = m.conns p ≡ None
IsForeign (SendFailed p f) m = Unit {0}
IsForeign (ShortSend p) m = Unit {0}
IsForeign (RecvFailed p f) m = Unit {0}
IsForeign w m = (p : ℕ) → is_told p w ≡ true → m.conns p ≡ None

-- What a frame f at p does at moment n.
pub data TakesFrame (n p : ℕ) (f : Octets) (m : Multi) : Act → Multi → Type 0 where
  IsBad : (x : Conn) → m.conns p ≡ Some x → is_bad f ≡ true → TakesFrame n p f m (Puts (Close p)) (end_at p m)
  IsUnknown : (x : Conn) → m.conns p ≡ Some x → is_bad f ≡ false → x.ids (id_in f) ≡ None → TakesFrame n p f m Nothing (set_conn p (framed f (Active n) x) m)
  IsLate : (x : Conn) (y : Written) (mode : Mode) → m.conns p ≡ Some x → is_bad f ≡ false → x.ids (id_in f) ≡ Some y → ((a : Asker) → m.asks y.request ≡ Some a → a.phase ≢ Holding p (id_in f)) → LeavesMode m p (framed f mode x) n mode → TakesFrame n p f m Nothing (set_conn p (framed f mode x) m)
  IsResult : (x : Conn) (y : Written) (mode : Mode) (a : Asker) → m.conns p ≡ Some x → is_bad f ≡ false → x.ids (id_in f) ≡ Some y → m.asks y.request ≡ Some a → a.phase ≡ Holding p (id_in f) → LeavesMode m p (framed f mode x) n mode
      → TakesFrame n p f m (Gives y.request (result_of a.request (id_in f) f)) (set_conn p (framed f mode x) (drop y.request m))
  IsDropped : m.conns p ≡ None → TakesFrame n p f m Nothing m

-- a row begins: nothing was taken in it yet
abbrev pub unheard : Option Conn → Option Conn
unheard None = None
unheard (Some x) = Some (record x { heard = false })

abbrev pub begin_row : Multi → Multi
begin_row m = record m { conns = λ p. unheard (m.conns p) }
