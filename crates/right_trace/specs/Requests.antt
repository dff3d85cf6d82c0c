-- What a history tells of each request.
use Rattle.std.specs.Prelude.{ℕ, Bool, ◌||◌, Option, Some, None, [], ◌∷◌, suc, max, true, false, not, ◌&&◌, ◌==◌, if◌then◌else◌, is_some}
use Rattle.client_request.specs.declared.event.What.{What}
use Rattle.client_request.specs.declared.event.What.TheVariants.{Ask}
use Rattle.client_request.specs.declared.event.Via.TheVariants.{Dgram, Stream}
use Rattle.right_trace.specs.Trace.{History, Came, Put}
use Rattle.client_request.specs.Request.{Request}
use Rattle.client_request.specs.declared.event.Out.{Out}
use Rattle.client_request.specs.declared.event.Out.TheVariants.{Start, Stale, Reply}
use Rattle.client_request.specs.declared.event.Via.{Via}
use Rattle.right_trace.specs.Time.{now}

-- an event is an asking
abbrev pub is_ask : What → Bool
is_ask (Ask r) = true
is_ask _ = false

-- how many were asked; request k belongs to the k-th asking, from 0
abbrev pub asks : History → ℕ
asks [] = 0
asks (Came e ∷ h) = if is_ask e.what then suc (asks h) else asks h
asks (Put o ∷ h) = asks h

-- an asking: what was asked, and when
pub record Asking : Type 0 where
  pub request : Request
  pub moment : ℕ

-- what an event asks, at moment n
abbrev pub asking_of : What → (n : ℕ) → Option Asking
asking_of (Ask r) n = Some (record { request = r; moment = n })
asking_of _ n = None

-- the asking of request k
abbrev pub asking : (k : ℕ) → History → Option Asking
asking k [] = None
asking k (Came e ∷ h) = if is_ask e.what && (asks h == k) then asking_of e.what (max e.moment.0 (now h)) else asking k h
asking k (Put o ∷ h) = asking k h

-- the newest row is the asking of request k
abbrev pub is_asked_here : (k : ℕ) → History → Bool
is_asked_here k [] = false
is_asked_here k (Came e ∷ h) = is_ask e.what && (asks h == k)
is_asked_here k (Put o ∷ h) = is_asked_here k h

-- an out is the reply to request k
abbrev pub is_reply : (k : ℕ) → Out → Bool
is_reply k (Reply j x) = j == k
is_reply k _ = false

-- request k has a reply
abbrev pub replied : (k : ℕ) → History → Bool
replied k [] = false
replied k (Came e ∷ h) = replied k h
replied k (Put o ∷ h) = is_reply k o || replied k h

-- an out says that the reply to request k, which is to follow it, is stale
abbrev pub is_mark : (k : ℕ) → Out → Bool
is_mark k (Stale j) = j == k
is_mark k _ = false

-- it was put last
abbrev pub is_marked : (k : ℕ) → History → Bool
is_marked k [] = false
is_marked k (Came e ∷ h) = false
is_marked k (Put o ∷ h) = is_mark k o

-- request k was asked and has no reply
abbrev pub waits : (k : ℕ) → History → Bool
waits k h = is_some (asking k h) && not (replied k h)

-- the same way
abbrev pub same_via : Via → Via → Bool
same_via Dgram Dgram = true
same_via Stream Stream = true
same_via _ _ = false

-- an out hands request k to server s so
abbrev pub is_start : (k s : ℕ) → Via → Out → Bool
is_start k s v (Start j t u) = same_via u v && ((j == k) && (t == s))
is_start k s v _ = false

-- when request k was handed to server s so
abbrev pub start : (k s : ℕ) → Via → History → Option ℕ
start k s v [] = None
start k s v (Came e ∷ h) = start k s v h
start k s v (Put o ∷ h) = if is_start k s v o then Some (now h) else start k s v h

-- request k was handed to server s so
abbrev pub started : (k s : ℕ) → Via → History → Bool
started k s v h = is_some (start k s v h)

-- request k was handed to server s, by datagram or by stream
abbrev pub handed : (k s : ℕ) → History → Bool
handed k s h = started k s Dgram h || started k s Stream h
