-- A client of one server by datagrams, as small moves on functions. Timers that are due fire in any order. The plain client's rows are rows of this machine.
use Rattle.std.specs.Prelude.{◌≡◌, ℕ, suc, ◌+◌, ◌-◌, ◌<◌, ◌≤◌, max, ◌==◌, ◌&&◌, nat_lt, nat_le, Bool, true, false, if◌then◌else◌, Option, Some, None, List, [], ◌∷◌, ◌++◌, length, take, Result, Ok, Err}
use Rattle.client_request.specs.Request.{Request}
use Rattle.client_request.specs.declared.error.Error.{Error}
use Rattle.client_request.specs.declared.error.Error.TheVariants as errors
use Rattle.client_request.specs.declared.error.QueryError.TheVariants as query
use Rattle.client_request.specs.declared.fault.Fault.TheVariants as fault
use Rattle.client_request.specs.declared.event.What.{What}
use Rattle.client_request.specs.declared.event.What.TheVariants.{Ask, Opened, OpenFailed, SendFailed, ShortSend, Datagram, RecvFailed}
use Rattle.client_request.specs.declared.event.Out.{Out}
use Rattle.client_request.specs.declared.event.Out.TheVariants.{Start, OpenDgram, Send, Close, Reply}
use Rattle.client_request.specs.declared.event.Row.{Row}
use Rattle.client_request.specs.declared.event.Via.TheVariants.{Dgram}
use Rattle.right_trace.specs.Trace.{Conf}
use Rattle.right_trace.specs.Time.{read_timeout, recv_size, max_places, max_tries}
use Rattle.right_trace.specs.Messages.{Octets, answers, under}
use Rattle.right_trace.specs.Updates.{with_at}

-- Where a request is: it waits for a slot, is between two places, waits for its place to open, or was sent.
pub data Stage : Type 0 where
  Queued : Stage
  Loose : Stage
  Trying : (place : ℕ) → Stage
  Sent : (place : ℕ) → (id : ℕ) → (moment : ℕ) → Stage

-- a request that waits for its reply: what was asked, and when, and how often it was sent
pub record Held : Type 0 where
  pub request : Request
  pub moment : ℕ
  pub tries : ℕ
  pub stage : Stage

-- `used` counts the slots that are taken; `held` has the requests by their numbers, `at` the request of each live place.
pub record State : Type 0 where
  pub now : ℕ
  pub asked : ℕ
  pub opened : ℕ
  pub used : ℕ
  pub queue : List ℕ
  pub held : ℕ → Option Held
  pub at : ℕ → Option ℕ

abbrev pub fresh : State
fresh = record { now = 0; asked = 0; opened = 0; used = 0; queue = []; held = λ k. None; at = λ p. None }

-- what a move leaves and puts out
pub record Done : Type 0 where
  pub state : State
  pub outs : List Out

abbrev pub nothing : State → Done
nothing s = record { state = s; outs = [] }

abbrev pub then_do : Done → (State → Done) → Done
then_do d f = record { state = (f d.state).state; outs = d.outs ++ (f d.state).outs }

abbrev pub staged : Held → Stage → Held
staged a stage = record { request = a.request; moment = a.moment; tries = a.tries; stage = stage }

-- The small moves

-- place p of request k is no more
abbrev pub loosen : (p k : ℕ) → Held → State → State
loosen p k a s = record s { at = with_at p None s.at; used = s.used - 1; held = with_at k (Some (staged a Loose)) s.held }

-- request k takes the next place
abbrev pub try : (k : ℕ) → Held → State → State
try k a s = record s { held = with_at k (Some (staged a (Trying s.opened))) s.held; at = with_at s.opened (Some k) s.at; opened = suc s.opened; used = suc s.used }

-- request k is no more
abbrev pub forget : (k : ℕ) → State → State
forget k s = record s { held = with_at k None s.held }

-- both
abbrev pub lose : (p k : ℕ) → State → State
lose p k s = record s { at = with_at p None s.at; used = s.used - 1; held = with_at k None s.held }

abbrev pub put_back : List ℕ → State → State
put_back q s = record s { queue = q }

-- a free slot is given on to the request that waits longest
abbrev pub give_held : (k : ℕ) → Option Held → State → Done
give_held k None s = nothing s
give_held k (Some a) s = record { state = try k a s; outs = OpenDgram s.opened 0 ∷ [] }

abbrev pub give_to : List ℕ → State → Done
give_to [] s = nothing s
give_to (k ∷ q) s = give_held k (s.held k) (put_back q s)

abbrev pub give : State → Done
give s = give_to s.queue s

-- the slot is given on, and request k has its reply
abbrev pub settle : (k : ℕ) → Result Octets Error → State → Done
settle k x s = then_do (give s) (λ s. record { state = forget k s; outs = Reply k x ∷ [] })

-- place p is closed first
abbrev pub finish : (p k : ℕ) → Held → Result Octets Error → State → Done
finish p k a x s = then_do (record { state = loosen p k a s; outs = Close p ∷ [] }) (settle k x)

-- place p is closed, and the next try opens
abbrev pub retry : (p k : ℕ) → Held → State → Done
retry p k a s = then_do (record { state = loosen p k a s; outs = Close p ∷ [] }) (λ s. record { state = try k a s; outs = OpenDgram s.opened 0 ∷ [] })

-- Timers

-- a timer of a request: with a place it is the read timer there, else the deadline
pub record Pick : Type 0 where
  pub request : ℕ
  pub held : Held
  pub place : Option ℕ

-- its request is held so, and it is due
pub record IsDue (c : Conf) (s : State) (x : Pick) : Type 0 where
  pub held : s.held x.request ≡ Some x.held
  pub deadline : x.place ≡ None → x.held.moment + c.timeout ≤ s.now
  pub reading : (p : ℕ) → x.place ≡ Some p → (id : ℕ) × (t : ℕ) × (x.held.stage ≡ Sent p id t) × (t + read_timeout c ≤ s.now)

-- no timer of a request is due
pub record DueLater (c : Conf) (now : ℕ) (a : Held) : Type 0 where
  pub deadline : now < a.moment + c.timeout
  pub reading : (p id t : ℕ) → a.stage ≡ Sent p id t → now < t + read_timeout c

-- no timer is due
abbrev pub Quiet : (c : Conf) → State → Type 0
Quiet c s = (k : ℕ) (a : Held) → s.held k ≡ Some a → DueLater c s.now a

abbrev pub remove : ℕ → List ℕ → List ℕ
remove k [] = []
remove k (x ∷ xs) = if x == k then xs else x ∷ remove k xs

-- the deadline of request k: its reply, and then its place goes
abbrev pub expire : (k : ℕ) → Stage → State → Done
expire k Queued s = record { state = put_back (remove k s.queue) (forget k s); outs = Reply k (Err errors.TimedOut) ∷ [] }
expire k Loose s = record { state = forget k s; outs = Reply k (Err errors.TimedOut) ∷ [] }
expire k (Trying p) s = then_do (record { state = lose p k s; outs = Reply k (Err errors.TimedOut) ∷ Close p ∷ [] }) give
expire k (Sent p id t) s = then_do (record { state = lose p k s; outs = Reply k (Err errors.TimedOut) ∷ Close p ∷ [] }) give

-- the read timer of request k at p: the next try, or after the last its reply
abbrev pub act_at : Conf → Option ℕ → (k : ℕ) → Held → State → Done
act_at c None k a s = expire k a.stage s
act_at c (Some p) k a s = if nat_lt a.tries (max_tries c) then retry p k a s else finish p k a (Err (errors.Dgram query.Timeout)) s

abbrev pub act : Conf → Pick → State → Done
act c x s = act_at c x.place x.request x.held s

-- timers that are due fire one after another, until none is
pub data Fires (c : Conf) : State → Done → Type 0 where
  Rests : (s : State) → Quiet c s → Fires c s (nothing s)
  Fires_one : (s : State) (x : Pick) (d : Done) → IsDue c s x → Fires c (act c x s).state d → Fires c s (record { state = d.state; outs = (act c x s).outs ++ d.outs })

-- What an event does

-- goes on with a request, or with the request of a place
abbrev pub with_held : (k : ℕ) → (ℕ → Held → State → Done) → Option Held → State → Done
with_held k f None s = nothing s
with_held k f (Some a) s = f k a s

abbrev pub with_owner : (ℕ → Held → State → Done) → Option ℕ → State → Done
with_owner f None s = nothing s
with_owner f (Some k) s = with_held k f (s.held k) s

abbrev pub dispatched : (p id : ℕ) → Held → (now : ℕ) → Held
dispatched p id a now = record { request = a.request; moment = a.moment; tries = suc a.tries; stage = Sent p id now }

abbrev pub dispatch : (p k id : ℕ) → Held → State → State
dispatch p k id a s = record s { held = with_at k (Some (dispatched p id a s.now)) s.held }

-- request k is sent at place p as what was composed, or that error is its reply
abbrev pub send_composed : (p id k : ℕ) → Held → State → Result Octets Error → Done
send_composed p id k a s (Ok octets) = record { state = dispatch p k id a s; outs = Send p k id octets ∷ [] }
send_composed p id k a s (Err e) = finish p k a (Err e) s

abbrev pub failed_at : (p : ℕ) → Error → Stage → ℕ → Held → State → Done
failed_at p e (Trying q) k a s = settle k (Err e) (loosen p k a s)
failed_at p e _ k a s = nothing s

abbrev pub broken_at : (p : ℕ) → Error → Stage → ℕ → Held → State → Done
broken_at p e (Sent q id t) k a s = finish p k a (Err e) s
broken_at p e _ k a s = nothing s

-- a message that answers is the reply
abbrev pub message_at : (p : ℕ) → Octets → Stage → ℕ → Held → State → Done
message_at p m (Sent q id t) k a s = if nat_le 12 (length m) && answers a.request id m then finish p k a (Ok m) s else nothing s
message_at p m _ k a s = nothing s

-- a new request, before it has a place or waits for one
abbrev pub newcomer : Request → State → Held
newcomer r s = record { request = r; moment = s.now; tries = 0; stage = Loose }

abbrev pub admit : Request → State → State
admit r s = record s { asked = suc s.asked; held = with_at s.asked (Some (newcomer r s)) s.held }

-- request k waits for a slot
abbrev pub line_up : (k : ℕ) → Held → State → State
line_up k a s = record s { held = with_at k (Some (staged a Queued)) s.held; queue = s.queue ++ k ∷ [] }

abbrev pub settle_in : Conf → (k : ℕ) → Held → State → Done
settle_in c k a s = if nat_lt s.used (max_places c) then record { state = try k a s; outs = OpenDgram s.opened 0 ∷ [] } else record { state = line_up k a s; outs = [] }

abbrev pub enter : Conf → Request → State → Done
enter c r s = then_do (record { state = admit r s; outs = Start s.asked 0 Dgram ∷ [] }) (settle_in c s.asked (newcomer r s))

-- a request that is not handed on has its reply at once
abbrev pub refuse : Error → State → Done
refuse e s = record { state = record s { asked = suc s.asked }; outs = Reply s.asked (Err e) ∷ [] }

-- why a request is not handed on, if it is not
abbrev pub refusal_of : (has_server : Bool) → Result Octets Error → Option Error
refusal_of has_server (Err e) = Some e
refusal_of true (Ok octets) = None
refusal_of false (Ok octets) = Some errors.NoTransportAvailable

abbrev pub enter_or_refuse : Conf → Request → State → Option Error → Done
enter_or_refuse c r s None = enter c r s
enter_or_refuse c r s (Some e) = refuse e s

module _ (c : Conf) (compose : Request → Result Octets Error) (has_server : Bool) where
  abbrev pub opened_at : (p id : ℕ) → Stage → ℕ → Held → State → Done
  opened_at p id (Trying q) k a s = send_composed p id k a s (compose (under c id a.request))
  opened_at p id _ k a s = nothing s

  -- an event's content; a request that is sent gets this id
  abbrev pub content : What → (id : ℕ) → State → Done
  content (Ask r) id s = enter_or_refuse c r s (refusal_of has_server (compose r))
  content (Opened p) id s = with_owner (λ k a. opened_at p id a.stage k a) (s.at p) s
  content (OpenFailed p f) id s = with_owner (λ k a. failed_at p (errors.Dgram (query.Connect f)) a.stage k a) (s.at p) s
  content (Datagram p o) id s = with_owner (λ k a. message_at p (take (recv_size c) o) a.stage k a) (s.at p) s
  content (SendFailed p f) id s = with_owner (λ k a. broken_at p (errors.Dgram (query.Send f)) a.stage k a) (s.at p) s
  content (ShortSend p) id s = with_owner (λ k a. broken_at p (errors.Dgram (query.Send fault.ShortSend)) a.stage k a) (s.at p) s
  content (RecvFailed p f) id s = with_owner (λ k a. broken_at p (errors.Dgram (query.Receive f)) a.stage k a) (s.at p) s
  content _ id s = nothing s

  abbrev pub clock : ℕ → State → State
  clock moment s = record s { now = max moment s.now }

  -- A row: timers fire, the event happens, and timers fire again. An id has 16 bits (RFC 1035 4.1.1).
  pub record IsStep (s : State) (row : Row) (s' : State) : Type 0 where
    pub id : ℕ
    pub small : id < 65536
    pub first : Done
    pub fires : Fires c (clock row.event.moment.0 s) first
    pub last : Done
    pub fires_again : Fires c (content row.event.what id first.state).state last
    pub outs : row.outs ≡ first.outs ++ (content row.event.what id first.state).outs ++ last.outs
    pub leaves : s' ≡ last.state

  -- rows, one after another
  pub data IsRun : State → List Row → Type 0 where
    Ends : (s : State) → IsRun s []
    Goes_on : (s : State) (row : Row) (s' : State) (rows : List Row) → IsStep s row s' → IsRun s' rows → IsRun s (row ∷ rows)
