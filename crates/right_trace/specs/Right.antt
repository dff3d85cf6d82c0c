-- When a trace is right.
use Rattle.right_trace.specs.Errors.{HasCause}
use Rattle.right_trace.specs.Replies.{OkIsRight}
use Rattle.std.specs.Prelude.{◌≡◌, ℕ, ◌+◌, ◌<◌, ◌≤◌, true, false, ◌⊎◌, Some, None, List, [], ◌∷◌, length, Result, Ok, Err}
use Rattle.client_request.specs.Request.{Request}
use Rattle.client_request.specs.declared.error.Error.{Error}
use Rattle.client_request.specs.declared.event.What.{What}
use Rattle.client_request.specs.declared.event.Out.{Out}
use Rattle.client_request.specs.declared.event.Out.TheVariants.{Start, OpenDgram, OpenStream, Send, Write, Resume, Close, Reply, Stale}
use Rattle.client_request.specs.declared.event.Row.{Row}
use Rattle.client_request.specs.declared.event.Via.{Via}
use Rattle.client_request.specs.declared.event.Via.TheVariants.{Dgram}
use Rattle.right_trace.specs.Trace.{History, Conf, Came, Put, after}
use Rattle.right_trace.specs.Time.{now, max_tries}
use Rattle.right_trace.specs.Messages.{Octets, is_valid}
use Rattle.right_trace.specs.Requests.{Asking, asking, replied, waits}
use Rattle.right_trace.specs.Places.{site, is_at, is_live, stand_untold}
use Rattle.right_trace.specs.Exchanges.{Matches}
use Rattle.right_trace.specs.Causes.{sends, TriesAreUp, StreamIsSilent}
use Rattle.right_trace.specs.Orderly.{MayStart, MayOpenStream, MayClose, PlacesAreMet, MaySend, MayWrite}
use Rattle.right_trace.specs.Busy.{IsBusy}
use Rattle.right_trace.specs.Settings.{Settings, defers_nothing}
use Rattle.right_trace.specs.Validity.{is_final}
use Rattle.right_trace.specs.Views.{is_failing_message}
use Rattle.right_trace.specs.Coming.{IsExcused}
use Rattle.right_trace.specs.Stale.{MessageIsRight}
use Rattle.client_request.specs.declared.error.Error.TheVariants as errors
use Rattle.client_request.specs.declared.error.QueryError.TheVariants as query

-- In what follows `past` is what happened before the row, `w` is the row's event, `h` is what happened up to here, the row's event and its outs so far included, and `end` is what happened when the row is done.

-- request k was asked
abbrev pub IsAsked : (k : ℕ) → History → Type 0
IsAsked k h = (a : Asking) × (asking k h ≡ Some a)

-- a reply is to a request that was asked and has none
pub record IsFirst (k : ℕ) (h : History) : Type 0 where
  pub asked : IsAsked k h
  pub none : replied k h ≡ false

-- without a server nothing but replies stands in a trace
abbrev pub HasServer : Conf → Type 0
HasServer c = 0 < length c.servers

-- no out opened place p
abbrev pub IsUnopened : (p : ℕ) → History → Type 0
IsUnopened p h = site p h ≡ None

-- place p is live, the row's event not counted: its timers go before the event
abbrev pub WasLive : (p : ℕ) → History → Type 0
WasLive p h = is_live (stand_untold p h) ≡ true

-- each valid request that waits when the row is done is busy
abbrev pub WaitingIsBusy : (c : Conf) (end : History) → Type 0
WaitingIsBusy c end = (k : ℕ) (a : Asking) → asking k end ≡ Some a → is_valid a.request ≡ true → waits k end ≡ true → IsBusy c k end

-- an out is one of these
abbrev pub Among : Out → List Out → Type 0
Among o [] = ⊥
Among o (x ∷ xs) = (x ≡ o) ⊎ Among o xs

-- an error that an event at a datagram place brings
abbrev pub fault_of : Out → ℕ
fault_of (Reply k (Err (errors.Dgram (query.Connect f)))) = 1
fault_of (Reply k (Err (errors.Dgram (query.Send f)))) = 1
fault_of (Reply k (Err (errors.Dgram (query.Receive f)))) = 1
fault_of _ = 0

-- how many of these are such errors
abbrev pub faults : List Out → ℕ
faults [] = 0
faults (o ∷ os) = fault_of o + faults os

-- what a reply owes that is not marked as stale, by its result
abbrev pub ReplyRight : (c : Conf) (s : Settings) (past : History) (w : What) (h : History) (k : ℕ) → Result Octets Error → Type 0
ReplyRight c s past w h k (Ok m) = OkIsRight c s k m past w h
ReplyRight c s past w h k (Err e) = HasCause c s e k past w h

-- what a reply owes, marked or not
abbrev pub ReplyOwes : (c : Conf) (s : Settings) (past : History) (w : What) (h : History) (k : ℕ) → Result Octets Error → Type 0
ReplyOwes c s past w h k (Ok m) = MessageIsRight c s k m past w h
ReplyOwes c s past w h k (Err e) = HasCause c s e k past w h

-- what an out of a server owes at the point where it is put: all outs but replies and their marks
abbrev pub ServerOutRight : (c : Conf) (past : History) (w : What) (h end : History) → Out → Type 0
ServerOutRight c past w h end (Start k s v) = HasServer c × MayStart c k s past w h v × IsAsked k h
ServerOutRight c past w h end (OpenDgram p s) = HasServer c × (s < length c.servers) × IsUnopened p h
ServerOutRight c past w h end (OpenStream p s) = HasServer c × (s < length c.servers) × MayOpenStream s h × IsUnopened p h
ServerOutRight c past w h end (Send p k id o) = HasServer c × ((s : ℕ) → is_at Dgram s p h ≡ true → sends k s h < max_tries c) × MaySend c k p id o past h
ServerOutRight c past w h end (Write p k id o) = HasServer c × MayWrite c k p id o past h
ServerOutRight c past w h end (Resume p o) = HasServer c
ServerOutRight c past w h end (Close p) = HasServer c × MayClose c p past w h end × WasLive p h
ServerOutRight c past w h end (Stale k) = ⊥
ServerOutRight c past w h end (Reply k x) = ⊥

-- what an out owes
abbrev pub OutRight : (c : Conf) (s : Settings) (past : History) (w : What) (h end : History) → Out → Type 0
OutRight c s past w h end (Reply k x) = IsFirst k h × ReplyOwes c s past w h k x
OutRight c s past w h end (Stale k) = HasServer c
OutRight c s past w h end o = ServerOutRight c past w h end o

abbrev pub OutsRight : (c : Conf) (s : Settings) (past : History) (w : What) (end h : History) → List Out → Type 0
OutsRight c s past w end h [] = Unit {0}
OutsRight c s past w end h (o ∷ os) = OutRight c s past w h end o × OutsRight c s past w end (Put o ∷ h) os

-- the first of these is an Ok reply to request k
abbrev pub IsFollowed : (k : ℕ) → List Out → Type 0
IsFollowed k (Reply j (Ok m) ∷ os) = j ≡ k
IsFollowed k _ = ⊥

-- each mark stands directly before its reply, which is Ok
abbrev pub MarksStand : List Out → Type 0
MarksStand [] = Unit {0}
MarksStand (Stale k ∷ os) = IsFollowed k os × MarksStand os
MarksStand (o ∷ os) = MarksStand os

abbrev pub ServerOutsRight : (c : Conf) (past : History) (w : What) (end h : History) → List Out → Type 0
ServerOutsRight c past w end h [] = Unit {0}
ServerOutsRight c past w end h (o ∷ os) = ServerOutRight c past w h end o × ServerOutsRight c past w end (Put o ∷ h) os

-- By the rows before and moment n, the request is overdue.
pub data IsOverdue (c : Conf) (s : Settings) (k n : ℕ) (past : History) : Type 0 where
  PastDeadline : (a : Asking) → asking k past ≡ Some a → a.moment + c.timeout ≤ n → IsOverdue c s k n past
  PastTries : s.defers_errors ≡ false → TriesAreUp c k n past past → IsOverdue c s k n past
  PastStream : s.defers_errors ≡ false → StreamIsSilent c k n past → IsOverdue c s k n past

-- it is given; or, where an expired message may serve and this one fails, a stale one
pub data IsGivenSo (s : Settings) (k : ℕ) (m : Octets) (outs : List Out) : Type 0 where
  AsItIs : Among (Reply k (Ok m)) outs → IsGivenSo s k m outs
  StaleFor : 0 < s.stale_for → is_failing_message m ≡ true → Among (Stale k) outs → IsGivenSo s k m outs

-- the first final message that comes for a request and matches it is its reply, in this row, unless the request is overdue or the message excused; where it fails, the reply may be stale
abbrev pub Prompt : (c : Conf) (s : Settings) (past : History) (row : Row) → Type 0
Prompt c s past row =
    (r : Request) (v : Via) (i p k id : ℕ) (m : Octets)
    → Matches c r v i p k id m past row.event.what (after row past)
    → is_final s r m ≡ true
    → (IsOverdue c s k (now (Came row.event ∷ past)) past → ⊥)
    → (IsExcused c p past row.event.what (after row past) → ⊥)
    → IsGivenSo s k m row.outs

pub record RowRight (c : Conf) (s : Settings) (past : History) (row : Row) : Type 0 where
  pub outs : OutsRight c s past row.event.what (after row past) (Came row.event ∷ past) row.outs
  pub busy : HasServer c → WaitingIsBusy c (after row past)
  pub places : PlacesAreMet c s (after row past)
  pub prompt : Prompt c s past row
  pub marks : MarksStand row.outs
  pub one_fault : defers_nothing s ≡ true → faults row.outs ≤ 1

abbrev pub RightAfter : (c : Conf) (s : Settings) (past : History) → List Row → Type 0
RightAfter c s past [] = Unit {0}
RightAfter c s past (row ∷ rows) = RowRight c s past row × RightAfter c s (after row past) rows

-- a trace is right
abbrev pub Right : Conf → Settings → List Row → Type 0
Right c s rows = RightAfter c s [] rows
