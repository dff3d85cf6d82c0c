-- What a plain transport owes to be a part of a client: whatever a call leaves of it is reached by moves of the part, which put out and give the same.
use Rattle.std.specs.Prelude.{◌≡◌, ℕ, suc, ◌<◌, ◌≤◌, ◌⊎◌, max, true, false, nat_lt, List, [], ◌++◌, length, Option, Some, None}
use Rattle.client_request.specs.Carries.{IsOfOctets}
use Rattle.client_request.specs.Request.{Request}
use Rattle.client_request.specs.Timers.{cancelled}
use Rattle.client_request.specs.View.{View, Transport, told, more_at, due_timer, asks}
use Rattle.client_request.specs.declared.board.Posted.{Posted}
use Rattle.client_request.specs.declared.event.Event.{Event}
use Rattle.client_request.specs.declared.event.Out.TheVariants.{Start}
use Rattle.client_request.specs.declared.event.Via.{Via}
use Rattle.client_request.specs.declared.event.What.{What}
use Rattle.client_request.specs.declared.event.What.TheVariants.{Ask, Opened, OpenFailed, SendFailed, ShortSend, Datagram, RecvFailed, Wrote, WriteFailed, Bytes, ReadFailed, Ended, Tick}
use Rattle.right_trace.specs.Trace.{Conf}
use Rattle.proof_right.specs.machine.Part.{Act, ServerPart}
use Rattle.right_trace.specs.Updates.{with_at}
use Rattle.proof_parts.specs.Sights.{Sight, sight, due_of, IsFair, NoneDue}
use Rattle.proof_parts.specs.Chains.{Chain, Begins, Gives}

-- Where a row is: its event was not told yet, or it was, and so many frames at a place are still to be taken; or it was told and is about no place of the transport.
pub data Phase : Type 0 where
  Untold : What → Phase
  Told : (place left : ℕ) → Phase
  Passed : What → Phase

-- the place that an event is about
abbrev pub place_in : What → Option ℕ
place_in (Ask r) = None
place_in (Opened p) = Some p
place_in (OpenFailed p f) = Some p
place_in (SendFailed p f) = Some p
place_in (ShortSend p) = Some p
place_in (Datagram p o) = Some p
place_in (RecvFailed p f) = Some p
place_in (Wrote p n) = Some p
place_in (WriteFailed p f) = Some p
place_in (Bytes p o) = Some p
place_in (ReadFailed p f) = Some p
place_in (Ended p) = Some p
place_in Tick = None

-- an event that no transport is told
abbrev pub IsNobodys : What → Type 0
IsNobodys (Ask r) = Unit {0}
IsNobodys Tick = Unit {0}
IsNobodys _ = ⊥

-- where a row may end: its event was told and each frame is taken, or it is nobody's
abbrev pub MayEnd : Phase → Type 0
MayEnd (Untold w) = IsNobodys w
MayEnd (Told place left) = left ≡ 0
MayEnd (Passed w) = Unit {0}

-- whether the event was told
abbrev pub WasTold : Phase → Type 0
WasTold (Untold w) = ⊥
WasTold _ = Unit {0}

-- Where requests are started and given up: the transport has taken nothing in this row, and no place that is opened now is the event's.
abbrev pub IsOpen : Phase → (next : ℕ) → Type 0
IsOpen (Untold w) next = Unit {0}
IsOpen (Told place left) next = ⊥
IsOpen (Passed w) next = (p : ℕ) → place_in w ≡ Some p → p < next

-- how many frames an event may bring to a place: fewer than it has octets, or as many
abbrev pub MayLeave : What → (place left : ℕ) → Type 0
MayLeave (Bytes p o) place left = (p ≡ place) × (left ≤ length o)
MayLeave _ place left = left ≡ 0

-- P holds of what a step leaves, if it leaves anything
abbrev pub Leads : {U : Type 0} → (U → View → Type 0) → Option (U × View) → Type 0
Leads P None = Unit {0}
Leads P (Some x) = P x.0 x.1

-- The view after a call: it is fair as before, its moment is the same, numbers go on, and a timer that is set was set before, or is a new one and not due.
pub record GoesOn (v w : View) : Type 0 where
  pub fair : IsFair w
  pub now : w.now ≡ v.now
  pub timer : v.timers.next ≤ w.timers.next
  pub ticket : v.ticket ≤ w.ticket
  pub place : v.place ≤ w.place
  pub later : (i due : ℕ) → due_of i w.timers.set ≡ Some due → (due_of i v.timers.set ≡ Some due) ⊎ ((v.now < due) × (v.timers.next ≤ i))

module _ {c : Conf} (P : ServerPart c) {U : Type 0} (Tied : Phase → U → Sight → P.State → Type 0) (names : U → ℕ → Option ℕ) (Owns : U → ℕ → Type 0) where
  -- What a call leaves of a transport u and its view v is what some act leaves that may be made, and it is tied again. `named` has the tickets whose results may be given.
  pub record Leaves (May : Act P.State → Type 0) (named : ℕ → Option ℕ) (u : U) (v : View) (phase : Phase) (w : U) (x : View) : Type 0 where
    pub made : Act P.State
    pub may : May made
    pub outs : x.outs ≡ v.outs ++ made.outs
    pub place : x.place ≡ made.place
    pub board : List Posted
    pub put : x.board ≡ v.board ++ board
    pub gives : Gives named board made.posts (names w)
    pub tied : Tied phase w (sight x) made.state
    pub goes_on : GoesOn v x
    -- a timer of its own is one that it had, or a new one, and others stay as they are
    pub owned : (i : ℕ) → Owns w i → Owns u i ⊎ (v.timers.next ≤ i)
    pub others : (i due : ℕ) → (Owns u i → ⊥) → due_of i v.timers.set ≡ Some due → due_of i x.timers.set ≡ Some due

  -- The same after an event, or after a frame: `more` says whether another frame stands at the place.
  pub record Tells (May : Act P.State → Type 0) (u : U) (v : View) (MayBe : (place left : ℕ) → Type 0) (w : U) (x : View) : Type 0 where
    pub at : ℕ
    pub left : ℕ
    pub may_be : MayBe at left
    pub more : x.more ≡ nat_lt 0 left
    pub leaves : Leaves May (names u) u v (Told at left) w x

-- The tie of a transport to a part, as server s, to which requests go by `via`: `Tied` relates what it is, and what is seen, to the part's state. `names` has the number of the request of each ticket whose result is to come, and it owns the timers that it set. A timer that fires is taken out before.
pub record IsTie {c : Conf} (P : ServerPart c) (s : ℕ) (via : Via) {U R : Type 0} (t : Transport Request U R) (ticket : R → ℕ) (first : U) (Tied : Phase → U → Sight → P.State → Type 0) (names : U → ℕ → Option ℕ) (Owns : U → (timer : ℕ) → Type 0) : Type 0 where
  pub fresh : (x : Sight) → x.now ≡ 0 → Tied (Told 0 0) first x P.fresh
  -- it looks at no timer of others, and at numbers only from below
  pub same : (phase : Phase) (u : U) (x y : Sight) (a : P.State) → Tied phase u x a → y.now ≡ x.now → ((i : ℕ) → Owns u i → y.dues i ≡ x.dues i) → x.timer ≤ y.timer → x.ticket ≤ y.ticket → x.place ≤ y.place → Tied phase u y a
  pub set : (phase : Phase) (u : U) (x : Sight) (a : P.State) (i : ℕ) → Tied phase u x a → Owns u i → (due : ℕ) × (x.dues i ≡ Some due)
  pub named : (phase : Phase) (u : U) (x : Sight) (a : P.State) (i k : ℕ) → Tied phase u x a → names u i ≡ Some k → (i < x.ticket) × (P.holds a k ≡ true)
  pub held : (phase : Phase) (u : U) (x : Sight) (a : P.State) (k : ℕ) → Tied phase u x a → P.holds a k ≡ true → (i : ℕ) × (names u i ≡ Some k)
  pub response : (r : Request) (u : U) (v : View) → ticket (t.response r u v) ≡ v.ticket
  -- once the event was told, none of its timers is due
  pub quiet : (phase : Phase) (u : U) (x : Sight) (a : P.State) → WasTold phase → Tied phase u x a → NoneDue (Owns u) x
  -- a row begins; and where it may end, and none of its timers is due, it rests
  pub begins : (phase : Phase) (u : U) (x : Sight) (a : P.State) (e : Event) → MayEnd phase → Tied phase u x a → Tied (Untold e.what) u (record x { now = max e.moment.0 x.now }) (P.begin e a)
  pub rests : (phase : Phase) (u : U) (v : View) (a : P.State) → MayEnd phase → NoneDue (Owns u) (sight v) → Tied phase u (sight v) a → P.Rests a
  -- The calls. Timers fire before the event is told; an event of nobody never is. What is given up gives nothing.
  pub fires : (u : U) (v : View) (a : P.State) (w : What) (i due : ℕ) → Tied (Untold w) u (sight v) a → IsFair v → due_of i v.timers.set ≡ Some due → due ≤ v.now
      → Leads (Leaves P Tied names Owns (Chain P s v.place a) (names u) u (record v { timers = cancelled i v.timers }) (Untold w)) (t.step (due_timer i) u (record v { timers = cancelled i v.timers }))
  pub sends : (phase : Phase) (u : U) (v : View) (a : P.State) (r : Request) → IsOpen phase v.place → Tied phase u (sight v) a → IsFair v → IsOfOctets r → P.holds a v.request ≡ false
      → Leads (Leaves P Tied names Owns (Begins (P.Starts s v.place v.request r a) (Chain P s)) (with_at v.ticket (Some v.request) (names u)) u v phase) (t.send r u (asks (Start v.request s via) v))
  pub cancels : (phase : Phase) (u : U) (v : View) (a : P.State) (r : R) (k : ℕ) → IsOpen phase v.place → Tied phase u (sight v) a → IsFair v → names u (ticket r) ≡ Some k
      → Leads (Leaves P Tied names Owns (λ d. Begins (P.Cancels s v.place k a) (Chain P s) d × (d.posts ≡ [])) (with_at (ticket r) None (names u)) u v phase) (t.cancel r u v)
  pub tells : (u : U) (v : View) (a : P.State) (w : What) → Tied (Untold w) u (sight v) a → IsFair v → NoneDue (Owns u) (sight v) → v.more ≡ false
      → Leads (Tells P Tied names Owns (Chain P s v.place a) u v (MayLeave w)) (t.step (told w) u v)
  pub takes : (u : U) (v : View) (a : P.State) (p n : ℕ) → Tied (Told p (suc n)) u (sight v) a → IsFair v → NoneDue (Owns u) (sight v) → v.more ≡ false
      → Leads (Tells P Tied names Owns (Chain P s v.place a) u v (λ q left. (q ≡ p) × (left ≤ n))) (t.step (more_at p) u v)
