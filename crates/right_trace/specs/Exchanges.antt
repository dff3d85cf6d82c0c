-- Exchanges: what was sent for a request and waits for its answer; and what comes for a request.
use Rattle.std.specs.Prelude.{◌≡◌, ℕ, ◌+◌, ◌<◌, ◌⊎◌, Bool, true, false, not, ◌&&◌, ◌||◌, ◌==◌, nat_lt, if◌then◌else◌, Option, Some, None, List, [], ◌∷◌, length}
use Rattle.client_request.specs.Request.{Request}
use Rattle.client_request.specs.declared.event.What.{What}
use Rattle.client_request.specs.declared.event.Out.{Out}
use Rattle.client_request.specs.declared.event.Out.TheVariants.{Send}
use Rattle.client_request.specs.declared.event.Via.{Via}
use Rattle.client_request.specs.declared.event.Via.TheVariants.{Dgram, Stream}
use Rattle.right_trace.specs.Trace.{History, Conf, Came, Put}
use Rattle.right_trace.specs.Time.{now, read_timeout, stream_timeout, recv_size}
use Rattle.right_trace.specs.Messages.{Octets, CarriesBy, answers, truncated}
use Rattle.right_trace.specs.Requests.{asking, replied, start}
use Rattle.right_trace.specs.Places.{site, stand, Alive}
use Rattle.right_trace.specs.Frames.{came, came_here, received, first_with}
use Rattle.right_trace.specs.Writes.{Written, waiting_with}

-- one of these messages answers the request
abbrev pub has_answer : Request → (id : ℕ) → List Octets → Bool
has_answer r id [] = false
has_answer r id (m ∷ ms) = answers r id m || has_answer r id ms

-- an out sends request k under this id at p
abbrev pub is_send : (p k id : ℕ) → Out → Bool
is_send p k id (Send q j i o) = (q == p) && ((j == k) && (i == id))
is_send p k id _ = false

-- what an out sends
abbrev pub sent_octets : Out → List Octets → List Octets
sent_octets (Send q j i o) os = o ∷ os
sent_octets _ os = os

-- What request k, which is r, was sent as at p under this id, less than the read timeout before moment n, with no datagram there that answers it since.
abbrev pub unanswered : Conf → Request → (p k id n : ℕ) → History → List Octets
unanswered c r p k id n [] = []
unanswered c r p k id n (Came e ∷ h) = if has_answer r id (received (recv_size c) (came p e.what h)) then [] else unanswered c r p k id n h
unanswered c r p k id n (Put o ∷ h) = if is_send p k id o && nat_lt n (now h + read_timeout c) then sent_octets o (unanswered c r p k id n h) else unanswered c r p k id n h

-- of these, what was written for request k
abbrev pub octets_for : (k : ℕ) → List Written → List Octets
octets_for k [] = []
octets_for k (w ∷ ws) = if w.request == k then w.octets ∷ octets_for k ws else octets_for k ws

-- moment n is less than the timeout by stream past that start
abbrev pub is_before : Conf → (n : ℕ) → Option ℕ → Bool
is_before c n (Some t) = nat_lt n (t + stream_timeout c)
is_before c n None = false

-- What was sent so and is still waited for at moment n: by datagram in a row of `past`; by stream in a row of h, of whose newest row the frames `ms` count.
abbrev pub waited_for : Conf → Via → Request → (s p k id n : ℕ) → (ms : List Octets) → (past h : History) → List Octets
waited_for c Dgram r s p k id n ms past h = unanswered c r p k id n past
waited_for c Stream r s p k id n ms past h = if is_before c n (start k s Stream h) then octets_for k (waiting_with ms p id h) else []

-- it is one of these
abbrev pub IsAmong : Octets → List Octets → Type 0
IsAmong o [] = ⊥
IsAmong o (x ∷ xs) = (x ≡ o) ⊎ IsAmong o xs

-- request k, which is r, waits, and p is an alive place of this kind and of server s, which the configuration has
pub record Stands (c : Conf) (r : Request) (v : Via) (s p k : ℕ) (h : History) : Type 0 where
  pub asked : (t : ℕ) × (asking k h ≡ Some (record { request = r; moment = t }))
  pub waiting : replied k h ≡ false
  pub alive : stand p h ≡ Alive
  pub at : site p h ≡ Some (record { via = v; server = s })
  pub known : s < length c.servers

-- An exchange of request k, which is r, with this id at p is open: it stood in `past`, and was sent by the rows up to h, of whose newest row the frames `ms` count.
pub record IsOpenWith (ms : List Octets) (c : Conf) (r : Request) (v : Via) (s p k id : ℕ) (past h : History) : Type 0 where
  pub stands : Stands c r v s p k past
  pub octets : Octets
  pub sent : IsAmong octets (waited_for c v r s p k id (now h) ms past h)
  pub carries : CarriesBy c v octets r id

-- it is open in a row: `past` is what happened before the row, `h` what happened up to here; the row's frames are still to be taken
abbrev pub IsOpen : (c : Conf) (r : Request) (v : Via) (s p k id : ℕ) (past h : History) → Type 0
IsOpen c r v s p k id past h = IsOpenWith [] c r v s p k id past h

-- it is open still when the row is done
abbrev pub IsLeftOpen : (c : Conf) (r : Request) (v : Via) (s p k id : ℕ) (end : History) → Type 0
IsLeftOpen c r v s p k id end = IsOpenWith (came_here p end) c r v s p k id end end

-- the first of these, as each kind of place has it
abbrev pub first_datagram : List Octets → Option Octets
first_datagram [] = None
first_datagram (m ∷ ms) = Some m

abbrev pub first_of : Conf → Via → (id : ℕ) → List Octets → Option Octets
first_of c Dgram id ms = first_datagram (received (recv_size c) ms)
first_of c Stream id ms = first_with id ms

-- A message comes for request k, which is r, on its exchange with this id at p, with event w: `past` is what happened before the row, `h` what happened up to here.
pub record Comes (c : Conf) (r : Request) (v : Via) (s p k id : ℕ) (m : Octets) (past : History) (w : What) (h : History) : Type 0 where
  pub is_open : IsOpen c r v s p k id past h
  pub first : first_of c v id (came p w past) ≡ Some m

-- a datagram has TC clear
abbrev pub is_whole : Via → Octets → Bool
is_whole Dgram m = not (truncated m)
is_whole Stream m = true

-- The message that comes answers the request and, if it is a datagram, has TC clear (RFC 2181 9).
pub record Matches (c : Conf) (r : Request) (v : Via) (s p k id : ℕ) (m : Octets) (past : History) (w : What) (h : History) : Type 0 where
  pub comes : Comes c r v s p k id m past w h
  pub agrees : answers r id m ≡ true
  pub whole : is_whole v m ≡ true
