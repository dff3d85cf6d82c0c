-- What a forward pass keeps of what was sent by datagrams and not answered.
use Rattle.std.specs.Prelude.{◌≡◌, ℕ, ◌+◌, ◌==◌, ◌&&◌, ◌||◌, nat_le, nat_lt, Bool, false, if◌then◌else◌, length, List, [], ◌∷◌, ◌++◌, reverse, Option, Some, None}
use Rattle.number_table.specs.Entries.{puts, frees, entry_at}
use Rattle.client_request.specs.Request.{Request}
use Rattle.client_request.specs.declared.event.{Event.Event, Out.Out, Out.TheVariants.Send, Via.TheVariants.Stream}
use Rattle.dns_base.specs.Answering.{is_answer}
use Rattle.right_trace.specs.Trace.{History, Came, Put, Conf}
use Rattle.right_trace.specs.Time.{now, read_timeout, recv_size}
use Rattle.right_trace.specs.{Messages.Octets, Causes.named, Exchanges.unanswered, Frames.received}
use Rattle.right_trace.specs.Requests.{Asking, asking}
use Rattle.right_trace.specs.Places.{site, is_of_kind}
use Rattle.trace_tables.specs.declared.sends.Sent.{Sent}
use Rattle.trace_tables.specs.declared.requests.Requests.{Requests}
use Rattle.trace_tables.specs.Requests as requests
use Rattle.trace_tables.specs.Lists.{listed}
use Rattle.trace_tables.specs.declared.frames.frames.{Brought.Brought, Frames.Frames}
use Rattle.trace_tables.specs.frames.Frames as frames
use Rattle.trace_points.specs.exchanges.Asked.{AskedFirst}

-- by place, the oldest first
abbrev pub Open : Type 0
Open = List (ℕ × List Sent)

-- a message with a whole header answers a request
abbrev pub answered_by : Request → (id : ℕ) → List Octets → Bool
answered_by r id [] = false
answered_by r id (m ∷ ms) = (nat_le 12 (length m) && is_answer id r.base m) || answered_by r id ms

abbrev pub is_answered : List Octets → (id : ℕ) → Option Asking → Bool
is_answered ms id None = false
is_answered ms id (Some a) = answered_by a.request id ms

-- what messages leave open
abbrev pub left_open : List Octets → List (ℕ × Asking) → List Sent → List Sent
left_open ms known [] = []
left_open ms known (x ∷ xs) = if is_answered ms x.id (entry_at x.request known) then left_open ms known xs else x ∷ left_open ms known xs

abbrev pub left_at : (p : ℕ) → List Octets → List (ℕ × Asking) → Option (List Sent) → Open → Open
left_at p ms known None t = t
left_at p ms known (Some xs) t = puts p (left_open ms known xs) (frees p t)

-- what came in this row is taken
abbrev pub met : (c : Conf) → Option Brought → List (ℕ × Asking) → Open → Open
met c None known t = t
met c (Some b) known t = left_at b.place (received (recv_size c) b.frames) known (entry_at b.place t) t

-- something more was sent at a place
abbrev pub sends_more : (p : ℕ) → Sent → Open → Open
sends_more p x t = puts p (listed p t ++ x ∷ []) (frees p t)

-- what an out makes of it, at a moment
abbrev pub has_put : Out → (moment : ℕ) → Open → Open
has_put (Send p k i o) n t = sends_more p (record { request = k; id = i; octets = o; moment = n }) t
has_put _ n t = t

-- a request is waited for so at a moment
abbrev pub is_for : (c : Conf) (k id now : ℕ) → Sent → Bool
is_for c k id n x = ((x.request == k) && (x.id == id)) && nat_lt n (x.moment + read_timeout c)

abbrev pub octets_of : (c : Conf) (k id now : ℕ) → List Sent → List Octets
octets_of c k id n [] = []
octets_of c k id n (x ∷ xs) = if is_for c k id n x then x.octets ∷ octets_of c k id n xs else octets_of c k id n xs

-- What is kept is what the definitions say of requests that were asked, at places that are no streams.
pub record Known (c : Conf) (h : History) (t : Open) : Type 0 where
  pub waits : (k p id n : ℕ) (a : Asking) → is_of_kind Stream (site p h) ≡ false → asking k h ≡ Some a → octets_of c k id n (reverse (listed p t)) ≡ unanswered c a.request p k id n h
  pub unsent : (k p id n : ℕ) → named p k h ≡ [] → octets_of c k id n (reverse (listed p t)) ≡ []

-- it is known before the first row, and goes on over events and outs; with an event what it brought is taken
pub record GoesOn (c : Conf) : Type 0 where
  pub begins : Known c [] []
  pub event : (h : History) (e : Event) (r : Requests) (f : Frames) (t : Open) → AskedFirst h → requests.Known (Came e ∷ h) r → frames.Known (Came e ∷ h) f → Known c h t → Known c (Came e ∷ h) (met c f.brought r.askings t)
  pub out : (h : History) (n : ℕ) (t : Open) (o : Out) → n ≡ now h → Known c h t → Known c (Put o ∷ h) (has_put o n t)
