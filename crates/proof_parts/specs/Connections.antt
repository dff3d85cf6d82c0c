-- What each call of a connection leaves of it, beside the moves of the machine.
use Rattle.std.specs.Prelude.{◌≡◌, ◌≢◌, ℕ, ◌+◌, ◌≤◌, ◌⊎◌, false, List, [], ◌∷◌, ◌++◌, Option, Some, None, Result}
use Rattle.client_request.specs.Carries.{IsOfOctets}
use Rattle.client_request.specs.Numbered.{puts, entry_at}
use Rattle.client_request.specs.Request.{Request}
use Rattle.client_request.specs.Requests.{for_one, for_several}
use Rattle.client_request.specs.Timers.{cancelled}
use Rattle.client_request.specs.View.{View, asks}
use Rattle.client_request.specs.declared.board.Posted.{Posted}
use Rattle.client_request.specs.declared.error.Error.{Error}
use Rattle.client_request.specs.declared.error.Error.TheVariants.{WrongReplyForQuery}
use Rattle.client_request.specs.declared.event.Out.TheVariants.{Close, Resume}
use Rattle.client_request.specs.declared.event.What.TheVariants.{Wrote}
use Rattle.client_stream.specs.Plain.{ends_with, ended, takes_on, frame_comes, wrote, gives_up, fires}
use Rattle.client_settings.specs.Stream.{Settings}
use Rattle.client_stream.specs.declared.request.AnyRequest.TheVariants.{Single}
use Rattle.client_stream.specs.declared.request.QueuedRequest.{QueuedRequest}
use Rattle.client_stream.specs.declared.line.LineStage.{LineStage}
use Rattle.client_stream.specs.declared.line.LineStage.TheVariants as at
use Rattle.right_trace.specs.Messages.{Octets}
use Rattle.right_trace.specs.Time.{response_timeout}
use Rattle.proof_right.specs.machine.Part.{Act}
use Rattle.proof_right.specs.machine.Streams as multi
use Rattle.proof_right.specs.machine.Streams.{Idle, Lined, Holding, Asker, Conn, Multi, moved, move, drop, set_conn, end_at, wrote_on, heard_on, Puts, Gives, Nothing, Moves, Takes, TakesFrame}
use Rattle.right_trace.specs.Updates.{with_at}
use Rattle.proof_parts.specs.Chains.{part_of}
use Rattle.proof_parts.specs.Lines.{SingleLine, IsLineAt}
use Rattle.proof_parts.specs.PartTie.{GoesOn, Leads}
use Rattle.proof_parts.specs.Runs.{Runs, IsBeside, AreFailing}
use Rattle.proof_parts.specs.Seats.{IsAway}
use Rattle.proof_parts.specs.Sights.{due_of, IsFair}
use Rattle.right_trace.specs.Trace.{Conf}

-- the timer that is set at a stage
abbrev pub timer_of : LineStage → Option ℕ
timer_of at.New = None
timer_of (at.Active timer since) = Some timer
timer_of (at.Idle timer) = Some timer
timer_of at.Ended = None

abbrev pub dues : View → ℕ → Option ℕ
dues v i = due_of i v.timers.set

-- The timer of a stage was dropped, and that of the next one is set.
pub record IsTimed (own to : LineStage) (v w : View) : Type 0 where
  pub on : GoesOn v w
  pub owned : (i : ℕ) → timer_of to ≡ Some i → (timer_of own ≡ Some i) ⊎ (v.timers.next ≤ i)
  pub others : (i due : ℕ) → (timer_of own ≡ Some i → ⊥) → dues v i ≡ Some due → dues w i ≡ Some due

-- a ticket that a connection has
abbrev pub IsAt : SingleLine → (i : ℕ) → Type 0
IsAt s i = ((w : QueuedRequest Request Request) × (entry_at i s.queue ≡ Some w)) ⊎ ((id : ℕ) × (entry_at i s.ids ≡ Some id))

abbrev pub IsPostedTo : (i : ℕ) → List Posted → Type 0
IsPostedTo i [] = ⊥
IsPostedTo i (x ∷ xs) = (x.ticket ≡ i) ⊎ IsPostedTo i xs

-- What requests that are taken leave, of the connection at p of server s: it goes on, and those of whom something is posted are to back off.
pub record HasTaken (c : Conf) (server p : ℕ) (names : ℕ → Option ℕ) (m : Multi) (x : Conn) (s : SingleLine) (v : View) (t : SingleLine) (w : View) : Type 0 where
  pub made : Act Multi
  pub runs : Runs c server v.now v.place m made
  pub nothing : made.posts ≡ []
  pub place : made.place ≡ v.place
  pub outs : w.outs ≡ v.outs ++ made.outs
  pub posts : List Posted
  pub put : w.board ≡ v.board ++ posts
  pub failing : AreFailing names made.state.asks posts
  pub conn : Conn
  pub line : IsLineAt c p names t made.state conn (dues w) w.ticket
  pub heard : conn.heard ≡ x.heard
  pub got : conn.got ≡ x.got
  pub beside : IsBeside p m made.state
  pub timed : IsTimed s.stage t.stage v w
  pub ticket : w.ticket ≡ v.ticket
  pub at_place : w.place ≡ v.place
  pub more : w.more ≡ v.more
  pub seats : (i : ℕ) → IsAt s i → IsAt t i ⊎ IsPostedTo i posts

-- It is settled where something is written, or nothing is queued.
pub record HasPumped (c : Conf) (server p : ℕ) (names : ℕ → Option ℕ) (m : Multi) (x : Conn) (s : SingleLine) (v : View) (t : SingleLine) (w : View) : Type 0 where
  pub taken : HasTaken c server p names m x s v t w
  pub settled : t.writing ≡ None → t.queue ≡ []

-- What the end of a connection leaves.
pub record HasEnded (p : ℕ) (names : ℕ → Option ℕ) (m : Multi) (s : SingleLine) (v : View) (w : View) : Type 0 where
  pub outs : w.outs ≡ v.outs ++ Close p ∷ []
  pub posts : List Posted
  pub put : w.board ≡ v.board ++ posts
  pub failing : AreFailing names (end_at p m).asks posts
  pub seats : (i : ℕ) → IsAt s i → IsPostedTo i posts
  pub timed : IsTimed s.stage at.Ended v w
  pub ticket : w.ticket ≡ v.ticket
  pub at_place : w.place ≡ v.place
  pub more : w.more ≡ v.more

-- What a frame gives: nothing, or the result of one request, which is no more.
pub data Gave (names : ℕ → Option ℕ) (m next : Multi) (v w : View) (act : multi.Act) : Type 0 where
  GaveNothing : act ≡ Nothing → w.board ≡ v.board → next.asks ≡ m.asks → Gave names m next v w act
  GaveResult : (i k : ℕ) (r : Result Octets Error) → act ≡ Gives k r → names i ≡ Some k → w.board ≡ v.board ++ record { ticket = i; part = part_of r; is_stale = false } ∷ [] → next.asks ≡ with_at k None m.asks → Gave names m next v w act

-- What a frame leaves of its connection: it goes on; it is closed as it is bad; or nothing is waited for and it has no idle time, and it is closed behind it.
pub data FrameLeft (c : Conf) (p : ℕ) (names : ℕ → Option ℕ) (m : Multi) (x : Conn) (s : SingleLine) (v : View) (f : Octets) (t : SingleLine) (w : View) : Type 0 where
  StaysOpen : (act : multi.Act) (next : Multi) (y : Conn) → TakesFrame v.now p f m act next → Gave names m next v w act → w.outs ≡ v.outs → IsLineAt c p names t next y (dues w) w.ticket → (t.writing ≡ None → t.queue ≡ []) → y.heard ≡ x.heard → y.got ≡ x.got
      → ((q : ℕ) → (p ≡ q → ⊥) → next.conns q ≡ m.conns q) → next.opening ≡ m.opening → next.calm ≡ m.calm → FrameLeft c p names m x s v f t w
  ClosesAsBad : TakesFrame v.now p f m (Puts (Close p)) (end_at p m) → HasEnded p names m s v w → t ≡ ended s → FrameLeft c p names m x s v f t w
  ClosesBehind : (act : multi.Act) (next : Multi) (y : Conn) → TakesFrame v.now p f m act next → Gave names m next v w act → w.outs ≡ v.outs ++ Close p ∷ [] → next.conns p ≡ Some y → y.mode ≡ Idle v.now → y.idle ≡ 0 → ((k : ℕ) (a : Asker) → next.asks k ≡ Some a → a.phase ≢ Lined p) → ((k : ℕ) (a : Asker) (id : ℕ) → next.asks k ≡ Some a → a.phase ≢ Holding p id) → t.stage ≡ at.Ended
      → ((q : ℕ) → (p ≡ q → ⊥) → next.conns q ≡ m.conns q) → next.opening ≡ m.opening → next.calm ≡ m.calm → FrameLeft c p names m x s v f t w

pub record HasHeard (c : Conf) (p : ℕ) (names : ℕ → Option ℕ) (m : Multi) (x : Conn) (s : SingleLine) (v : View) (f : Octets) (t : SingleLine) (w : View) : Type 0 where
  pub left : FrameLeft c p names m x s v f t w
  pub timed : IsTimed s.stage t.stage v w
  pub ticket : w.ticket ≡ v.ticket
  pub at_place : w.place ≡ v.place
  pub more : w.more ≡ v.more

-- What it leaves: it goes on as it is heard or with something to write, has taken requests, or has ended.
pub data HasWritten (c : Conf) (server p : ℕ) (names : ℕ → Option ℕ) (m : Multi) (x : Conn) (s : SingleLine) (v : View) (count : ℕ) (t : SingleLine) (w : View) : Type 0 where
  IsHeard : Takes c v.now m (Wrote p count) Nothing (set_conn p (heard_on x) m) → t ≡ s → w ≡ v → HasWritten c server p names m x s v count t w
  WritesOn : (octets : List ℕ) → Takes c v.now m (Wrote p count) (Puts (Resume p octets)) (set_conn p (wrote_on count x) m) → IsLineAt c p names t (set_conn p (wrote_on count x) m) (wrote_on count x) (dues w) w.ticket → w ≡ asks (Resume p octets) v → t.stage ≡ s.stage → (t.writing ≡ None → t.queue ≡ []) → HasWritten c server p names m x s v count t w
  HasRoom : Takes c v.now m (Wrote p count) Nothing (set_conn p (wrote_on count x) m) → HasPumped c server p names (set_conn p (wrote_on count x) m) (wrote_on count x) (record s { writing = None }) v t w → HasWritten c server p names m x s v count t w
  FailsWriting : Takes c v.now m (Wrote p count) (Puts (Close p)) (end_at p m) → HasEnded p names m s v w → t ≡ ended s → HasWritten c server p names m x s v count t w

-- What it leaves: all as it was, or the end of the connection, which is by a move of its own.
pub data HasFired (c : Conf) (server p : ℕ) (names : ℕ → Option ℕ) (m : Multi) (x : Conn) (s : SingleLine) (v : View) (t : SingleLine) (w : View) : Type 0 where
  IsOthers : IsLineAt c p names s m x (dues v) v.ticket → t ≡ s → w ≡ v → HasFired c server p names m x s v t w
  EndsByTimer : ((next : ℕ) → Moves c server v.now next m (Puts (Close p)) (end_at p m)) → HasEnded p names m s v w → t ≡ ended s → HasFired c server p names m x s v t w

-- the line and the view once a request is queued under the next ticket
abbrev pub lined_up : Asker → SingleLine → View → SingleLine
lined_up a s v = record s { queue = puts v.ticket (record { number = v.request; request = Single a.request }) s.queue }

-- A connection that is settled is writing, or nothing is queued there.
abbrev pub IsSettled : SingleLine → Type 0
IsSettled s = s.writing ≡ None → s.queue ≡ []

-- Each call of a connection that is tied leaves what the machine's moves leave at its place, and it is tied again or has ended.
pub record LinesAreTied (c : Conf) : Type 0 where
  -- a request that is nowhere there is queued under the next ticket
  pub takes_on : (server p : ℕ) (settings : Settings) → settings.response_timeout ≡ response_timeout c → (names : ℕ → Option ℕ) (m : Multi) (x : Conn) (s : SingleLine) (v : View) → IsLineAt c p names s m x (dues v) v.ticket → IsFair v
      → (k : ℕ) (a : Asker) → m.asks k ≡ Some a → IsAway p (m.asks k) → names v.ticket ≡ None → ((j : ℕ) → names j ≡ Some k → ⊥) → v.request ≡ k → IsOfOctets a.request → x.heard ≡ false
      → Leads (HasPumped c server p (with_at v.ticket (Some k) names) (move k a (Lined p) m) x (lined_up a s v) (record v { ticket = v.ticket + 1 })) (takes_on for_one for_several p settings (Single a.request) s v)
  -- a frame comes
  pub hears : (p : ℕ) (names : ℕ → Option ℕ) (m : Multi) (x : Conn) (s : SingleLine) (v : View) → IsLineAt c p names s m x (dues v) v.ticket → IsFair v → IsSettled s → (f : Octets) → Leads (HasHeard c p names m x s v f) (frame_comes for_one for_several p f s v)
  -- so many octets were taken
  pub writes : (server p : ℕ) (settings : Settings) → settings.response_timeout ≡ response_timeout c → (names : ℕ → Option ℕ) (m : Multi) (x : Conn) (s : SingleLine) (v : View) → IsLineAt c p names s m x (dues v) v.ticket → IsFair v → IsSettled s → x.heard ≡ false
      → (count : ℕ) → Leads (HasWritten c server p names m x s v count) (wrote for_one for_several p settings count s v s.writing)
  -- the request of a ticket is given up
  pub gives_up : (p : ℕ) (names : ℕ → Option ℕ) (m : Multi) (x : Conn) (s : SingleLine) (v : View) → IsLineAt c p names s m x (dues v) v.ticket → (i k : ℕ) → names i ≡ Some k
      → ((w : QueuedRequest Request Request) × (entry_at i s.queue ≡ Some w)) ⊎ ((entry_at i s.queue ≡ None) × (id : ℕ) × (entry_at i s.ids ≡ Some id)) → IsLineAt c p names (gives_up i s) (drop k m) x (dues v) v.ticket
  -- a timer that is due fires, and is taken out before
  pub fires : (server p : ℕ) (names : ℕ → Option ℕ) (m : Multi) (x : Conn) (s : SingleLine) (v : View) → IsLineAt c p names s m x (dues v) v.ticket → IsFair v → IsSettled s → (timer due : ℕ) → dues v timer ≡ Some due → due ≤ v.now
      → Leads (HasFired c server p names m x s (record v { timers = cancelled timer v.timers })) (fires p timer s (record v { timers = cancelled timer v.timers }) s.stage)
  -- it ends for an error that is no answer
  pub ends : (p : ℕ) (names : ℕ → Option ℕ) (m : Multi) (x : Conn) (s : SingleLine) (v : View) → IsLineAt c p names s m x (dues v) v.ticket → IsFair v → (error : Error) → error ≢ WrongReplyForQuery → HasEnded p names m s v (ends_with p error s v).1
