-- One server by datagrams, as small moves. Which request takes a free slot, and when timers that are due fire, is left open. The plain client's steps are chains of these moves.
use Rattle.std.specs.Prelude.{◌≡◌, ℕ, suc, ◌+◌, ◌-◌, ◌<◌, ◌≤◌, true, false, if◌then◌else◌, Option, Some, None, length, take, Result, Ok, Err}
use Rattle.client_request.specs.Request.{Request}
use Rattle.client_request.specs.declared.error.Error.{Error}
use Rattle.client_request.specs.declared.fault.Fault.{Fault}
use Rattle.client_request.specs.declared.event.What.{What}
use Rattle.client_request.specs.declared.event.What.TheVariants.{Opened, OpenFailed, SendFailed, ShortSend, Datagram, RecvFailed}
use Rattle.client_request.specs.declared.event.Out.TheVariants.{OpenDgram, Send, Close}
use Rattle.client_request.specs.declared.event.Via.TheVariants.{Dgram}
use Rattle.right_trace.specs.Trace.{Conf}
use Rattle.right_trace.specs.Time.{read_timeout, recv_size, max_places, max_tries}
use Rattle.right_trace.specs.Messages.{Octets, CarriesBy, answers, truncated, IsComposingFault}
use Rattle.proof_right.specs.machine.Streams.{Act, Puts, Gives, Nothing}
use Rattle.right_trace.specs.Updates.{with_at}
use Rattle.client_request.specs.declared.error.Error.TheVariants as errors
use Rattle.client_request.specs.declared.error.QueryError.TheVariants as query
use Rattle.client_request.specs.declared.fault.Fault.TheVariants as fault

-- Where a request is: it waits for a slot, waits for its place to open, or was sent; or its place is closed, and it is to have a result or to go on by stream at once.
pub data Stage : Type 0 where
  Queued : Stage
  Trying : (place : ℕ) → Stage
  Sent : (place : ℕ) → (id : ℕ) → (moment : ℕ) → Stage
  Ending : Result Octets Error → Stage
  Cut : Stage

-- a request that waits for its result: what was asked, how often it was sent, and where it is
pub record Tryer : Type 0 where
  pub request : Request
  pub tries : ℕ
  pub stage : Stage

-- `used` counts the slots that are taken; `at` has the request of each live place.
pub record Dgrams : Type 0 where
  pub held : ℕ → Option Tryer
  pub at : ℕ → Option ℕ
  pub used : ℕ

abbrev pub no_datagram : Dgrams
no_datagram = record { held = λ k. None; at = λ p. None; used = 0 }

abbrev pub staged : Tryer → Stage → Tryer
staged a stage = record { request = a.request; tries = a.tries; stage = stage }

-- request k takes place p
abbrev pub try_at : (p k : ℕ) → Tryer → Dgrams → Dgrams
try_at p k a d = record { held = with_at k (Some (staged a (Trying p))) d.held; at = with_at p (Some k) d.at; used = suc d.used }

-- request k is sent at its place
abbrev pub send_at : (p id n k : ℕ) → Tryer → Dgrams → Dgrams
send_at p id n k a d = record d { held = with_at k (Some (record { request = a.request; tries = suc a.tries; stage = Sent p id n })) d.held }

-- place p of request k is no more, and this comes next
abbrev pub leave : (p k : ℕ) → Tryer → Stage → Dgrams → Dgrams
leave p k a stage d = record { held = with_at k (Some (staged a stage)) d.held; at = with_at p None d.at; used = d.used - 1 }

abbrev pub forget : (k : ℕ) → Dgrams → Dgrams
forget k d = record d { held = with_at k None d.held }

-- what an answer makes of its request
abbrev pub stage_of : Octets → Stage
stage_of m = if truncated m then Cut else Ending (Ok m)

-- Moves at any time: of server s, at moment n, `next` being the next place.
pub data Tries (c : Conf) (s n next : ℕ) (d : Dgrams) : Act → Dgrams → Type 0 where
  Opens : (k : ℕ) (a : Tryer) → d.held k ≡ Some a → a.stage ≡ Queued → d.used < max_places c → Tries c s n next d (Puts (OpenDgram next s)) (try_at next k a d)
  Retries : (k : ℕ) (a : Tryer) (p id t : ℕ) → d.held k ≡ Some a → a.stage ≡ Sent p id t → t + read_timeout c ≤ n → a.tries < max_tries c → Tries c s n next d (Puts (Close p)) (leave p k a Queued d)
  StopsTrying : (k : ℕ) (a : Tryer) (p id t : ℕ) → d.held k ≡ Some a → a.stage ≡ Sent p id t → t + read_timeout c ≤ n → max_tries c ≤ a.tries → Tries c s n next d (Puts (Close p)) (leave p k a (Ending (Err (errors.Dgram query.Timeout))) d)
  Ends : (k : ℕ) (a : Tryer) (x : Result Octets Error) → d.held k ≡ Some a → a.stage ≡ Ending x → Tries c s n next d (Gives k x) (forget k d)

-- What an event does at moment n.
pub data Meets (c : Conf) (n : ℕ) (d : Dgrams) : What → Act → Dgrams → Type 0 where
  IsSent : (k : ℕ) (a : Tryer) (p id : ℕ) (o : Octets) → d.at p ≡ Some k → d.held k ≡ Some a → a.stage ≡ Trying p → CarriesBy c Dgram o a.request id → Meets c n d (Opened p) (Puts (Send p k id o)) (send_at p id n k a d)
  CannotBeSent : (k : ℕ) (a : Tryer) (p : ℕ) (e : Error) → d.at p ≡ Some k → d.held k ≡ Some a → a.stage ≡ Trying p → IsComposingFault a.request e → Meets c n d (Opened p) (Puts (Close p)) (leave p k a (Ending (Err e)) d)
  DoesNotOpen : (k : ℕ) (a : Tryer) (p : ℕ) (f : Fault) → d.at p ≡ Some k → d.held k ≡ Some a → a.stage ≡ Trying p → Meets c n d (OpenFailed p f) Nothing (leave p k a (Ending (Err (errors.Dgram (query.Connect f)))) d)
  NotSent : (k : ℕ) (a : Tryer) (p id t : ℕ) (f : Fault) → d.at p ≡ Some k → d.held k ≡ Some a → a.stage ≡ Sent p id t → Meets c n d (SendFailed p f) (Puts (Close p)) (leave p k a (Ending (Err (errors.Dgram (query.Send f)))) d)
  SentShort : (k : ℕ) (a : Tryer) (p id t : ℕ) → d.at p ≡ Some k → d.held k ≡ Some a → a.stage ≡ Sent p id t → Meets c n d (ShortSend p) (Puts (Close p)) (leave p k a (Ending (Err (errors.Dgram (query.Send fault.ShortSend)))) d)
  NotReceived : (k : ℕ) (a : Tryer) (p id t : ℕ) (f : Fault) → d.at p ≡ Some k → d.held k ≡ Some a → a.stage ≡ Sent p id t → Meets c n d (RecvFailed p f) (Puts (Close p)) (leave p k a (Ending (Err (errors.Dgram (query.Receive f)))) d)
  IsAnswered : (k : ℕ) (a : Tryer) (p id t : ℕ) (o : Octets) → d.at p ≡ Some k → d.held k ≡ Some a → a.stage ≡ Sent p id t → 12 ≤ length (take (recv_size c) o) → answers a.request id (take (recv_size c) o) ≡ true → Meets c n d (Datagram p o) (Puts (Close p)) (leave p k a (stage_of (take (recv_size c) o)) d)

-- the place opens for nobody who is to be sent
abbrev pub TriesAt : (p : ℕ) → Dgrams → Type 0
TriesAt p d = (k : ℕ) × (a : Tryer) × (d.at p ≡ Some k) × (d.held k ≡ Some a) × (a.stage ≡ Trying p)

-- somebody was sent there
abbrev pub SentAt : (p : ℕ) → Dgrams → Type 0
SentAt p d = (k : ℕ) × (a : Tryer) × (id : ℕ) × (t : ℕ) × (d.at p ≡ Some k) × (d.held k ≡ Some a) × (a.stage ≡ Sent p id t)

-- the event is about nothing that this server has
abbrev pub IsIgnored : Conf → What → Dgrams → Type 0
IsIgnored c (Opened p) d = TriesAt p d → ⊥
IsIgnored c (OpenFailed p f) d = TriesAt p d → ⊥
IsIgnored c (SendFailed p f) d = SentAt p d → ⊥
IsIgnored c (ShortSend p) d = SentAt p d → ⊥
IsIgnored c (RecvFailed p f) d = SentAt p d → ⊥
IsIgnored c (Datagram p o) d = (k : ℕ) (a : Tryer) (id t : ℕ) → d.at p ≡ Some k → d.held k ≡ Some a → a.stage ≡ Sent p id t → 12 ≤ length (take (recv_size c) o) → answers a.request id (take (recv_size c) o) ≡ false
IsIgnored c _ d = Unit {0}
