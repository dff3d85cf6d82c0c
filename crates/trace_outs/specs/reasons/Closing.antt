-- Whether a place may be closed.
use Rattle.std.specs.Prelude.{ℕ, ◌+◌, ◌==◌, ◌&&◌, ◌||◌, not, nat_le, nat_lt, Bool, true, false, length, List, [], ◌∷◌, Option, Some, None}
use Rattle.client_request.specs.declared.event.{Via.TheVariants.Dgram, What.What, Out.Out, Out.TheVariants.Reply}
use Rattle.client_request.specs.declared.event.What.TheVariants.{SendFailed, ShortSend, RecvFailed, Wrote, WriteFailed, ReadFailed, Ended}
use Rattle.right_trace.specs.{Time.read_timeout, Messages.Octets, Busy.EndsBadly}
use Rattle.right_trace.specs.Trace.{History, Conf}
use Rattle.right_trace.specs.Requests.{same_via, is_reply}
use Rattle.right_trace.specs.Orderly.{MayCloseStream, MayClose}
use Rattle.right_trace.specs.Right.{HasServer, WasLive}
use Rattle.trace_tables.specs.declared.requests.Requests.{Requests}
use Rattle.trace_tables.specs.declared.sends.Sent.{Sent}
use Rattle.trace_tables.specs.Lists.{listed}
use Rattle.trace_tables.specs.Requests.{started_seen, replied_seen}
use Rattle.trace_tables.specs.declared.frames.frames.Brought.{Brought}
use Rattle.trace_tables.specs.frames.Here.{was_live_seen}
use Rattle.trace_points.specs.questions.Outs.{Tells}
use Rattle.trace_points.specs.declared.exchanges.coming.Coming.{Coming}
use Rattle.trace_tables.specs.writes.Writing.{unwritten_seen}
use Rattle.trace_points.specs.due.{Due.read_due, Invalid.invalid_seen}
use Rattle.trace_outs.specs.declared.reasons.point.Point.{Point}
use Rattle.trace_outs.specs.reasons.Point.{Known, has_server_seen}

-- an event tells that place p is broken
abbrev pub told_seen : (p : ℕ) → What → Bool
told_seen p (SendFailed q f) = q == p
told_seen p (ShortSend q) = q == p
told_seen p (RecvFailed q f) = q == p
told_seen p (WriteFailed q f) = q == p
told_seen p (ReadFailed q f) = q == p
told_seen p (Ended q) = q == p
told_seen p (Wrote q n) = (n == 0) && (q == p)
told_seen p _ = false

-- an answer to request k came at p by datagram
abbrev pub is_answer_at : (p k : ℕ) → Coming → Bool
is_answer_at p k x = (x.place == p) && ((x.request == k) && (same_via x.via Dgram && x.agrees))

abbrev pub some_answer_at : (p k : ℕ) → List Coming → Bool
some_answer_at p k [] = false
some_answer_at p k (x ∷ xs) = is_answer_at p k x || some_answer_at p k xs

abbrev pub some_reply : (k : ℕ) → List Out → Bool
some_reply k [] = false
some_reply k (o ∷ os) = is_reply k o || some_reply k os

-- request k has its reply in this row, over the requests as they were before it
abbrev pub replied_here : (k : ℕ) → (past : Requests) → List Out → Bool
replied_here k past os = not (replied_seen k past) && some_reply k os

-- an out is the first reply to a request that server s has
abbrev pub is_reply_there : (s : ℕ) → (past here : Requests) → Out → Bool
is_reply_there s past here (Reply k x) = not (replied_seen k past) && started_seen k s Dgram here
is_reply_there s past here _ = false

abbrev pub some_reply_there : (s : ℕ) → (past here : Requests) → List Out → Bool
some_reply_there s past here [] = false
some_reply_there s past here (o ∷ os) = is_reply_there s past here o || some_reply_there s past here os

-- why a place is closed at which request k was sent last
abbrev pub sent_closes : (c : Conf) (p : ℕ) → Point → (k moment : ℕ) → Bool
sent_closes c p t k n =
    some_answer_at p k t.comings.now
    || (nat_le (n + read_timeout c) t.here.now.books.requests.clock || replied_here k t.past.now.books.requests t.row.now.outs)

-- why a place of server s is closed at which nothing was sent
abbrev pub unsent_closes : (s : ℕ) → Point → Bool
unsent_closes s t = invalid_seen Dgram s t.timers.now.invalid || some_reply_there s t.past.now.books.requests t.here.now.books.requests t.row.now.outs

abbrev pub by_sends : (c : Conf) (p s : ℕ) → Point → List Sent → Bool
by_sends c p s t [] = unsent_closes s t
by_sends c p s t (y ∷ ys) = sent_closes c p t y.request y.moment

abbrev pub dgram_closes : (c : Conf) (p s : ℕ) → Point → Bool
dgram_closes c p s t = told_seen p t.row.now.event.what || by_sends c p s t (listed p t.here.now.books.sends.sent)

abbrev pub bad_in : List Octets → Bool
bad_in [] = false
bad_in (m ∷ ms) = nat_lt (length m) 12 || bad_in ms

abbrev pub bad_at : (p : ℕ) → Option Brought → Bool
bad_at p None = false
bad_at p (Some b) = (b.place == p) && bad_in b.frames

-- why a stream place is closed, but for its idle timer
abbrev pub stream_closes : (c : Conf) (p : ℕ) → Point → Bool
stream_closes c p t =
    told_seen p t.row.now.event.what
    || (bad_at p t.here.now.frames.brought || read_due c p t.here.now.books.requests.clock t.past.now t.past_timers.now)

-- the answer, of all that is known at the point
abbrev pub TellsStreamClose : (p : ℕ) → Point → Bool → Type 0
TellsStreamClose p t b = (c : Conf) (x h end : History) → Known c x h end t → Tells (MayCloseStream c p x t.row.now.event.what h) b

-- why a connection that is closed makes its requests back off, with an answer for the idle timer
abbrev pub bad_end : (c : Conf) (p : ℕ) → Point → (idle : Bool) → Bool
bad_end c p t idle = stream_closes c p t || (idle && (unwritten_seen p t.past_timers.now.writing || unwritten_seen p t.timers.now.writing))

abbrev pub TellsBadEnd : (p : ℕ) → Point → Bool → Type 0
TellsBadEnd p t b = (c : Conf) (x h end : History) → Known c x h end t → Tells (EndsBadly c p h) b

-- the answer of why a place may be closed, of all that is known at the point
abbrev pub TellsReason : (p : ℕ) → Point → Bool → Type 0
TellsReason p t b = (c : Conf) (x h end : History) → Known c x h end t → Tells (MayClose c p x t.row.now.event.what h end) b

-- what the definitions want of an out that closes a place
abbrev pub CloseIsRight : Conf → (p : ℕ) → (past : History) → What → (h end : History) → Type 0
CloseIsRight c p past w h end = HasServer c × MayClose c p past w h end × WasLive p h

-- it may, where there is a reason for it
abbrev pub may_close : (p : ℕ) → Point → (reason : Bool) → Bool
may_close p t reason = has_server_seen t && (reason && was_live_seen p t.past.now.books.places t.made.now)

abbrev pub TellsClose : (p : ℕ) → Point → Bool → Type 0
TellsClose p t b = (c : Conf) (x h end : History) → Known c x h end t → Tells (CloseIsRight c p x t.row.now.event.what h end) b
