-- What a plain transport owes to be all that a client has below it: whatever a call leaves of it is reached by moves of the client, which put out and give the same.
use Rattle.std.specs.Prelude.{◌≡◌, ℕ, suc, ◌<◌, ◌≤◌, ◌⊎◌, max, true, false, is_some, nat_lt, List, [], ◌++◌, length, map, Option, Some, None, Result}
use Rattle.client_request.specs.Carries.{IsOfOctets}
use Rattle.client_request.specs.Composed.{composed}
use Rattle.client_request.specs.Request.{Request}
use Rattle.client_request.specs.Timers.{cancelled}
use Rattle.client_request.specs.View.{View, Transport, told, more_at, due_timer}
use Rattle.client_request.specs.declared.board.Posted.{Posted}
use Rattle.client_request.specs.declared.error.Error.{Error}
use Rattle.client_request.specs.declared.event.Event.{Event}
use Rattle.client_request.specs.declared.event.Out.{Out}
use Rattle.client_request.specs.declared.event.What.{What}
use Rattle.right_trace.specs.Messages.{Octets}
use Rattle.right_trace.specs.Settings.{Settings}
use Rattle.right_trace.specs.Trace.{Conf}
use Rattle.proof_right.specs.machine.Part.{Post, ServerPart}
use Rattle.proof_right.specs.machine.Client.{Leaving, Upper, newcomer, outcome, row_begins, begun}
use Rattle.right_trace.specs.Updates.{with_at}
use Rattle.proof_parts.specs.Chains.{Gives}
use Rattle.proof_parts.specs.Leading as moves
use Rattle.proof_parts.specs.PartTie.{Phase, Untold, Told, MayEnd, MayLeave, Leads, place_in}
use Rattle.proof_parts.specs.Sights.{Sight, sight, due_of, IsFair, IsEarly}

-- The view after calls: it is fair, its moment is the same, numbers go on, and a timer that is set was set before, or is a new one and not past.
pub record Follows (v w : View) : Type 0 where
  pub fair : IsFair w
  pub now : w.now ≡ v.now
  pub timer : v.timers.next ≤ w.timers.next
  pub ticket : v.ticket ≤ w.ticket
  pub place : v.place ≤ w.place
  pub later : (i due : ℕ) → due_of i w.timers.set ≡ Some due → (due_of i v.timers.set ≡ Some due) ⊎ ((v.now ≤ due) × (v.timers.next ≤ i))

-- A result that a transport gives for a request of the client, and what was asked.
pub record Gave : Type 0 where
  pub request : ℕ
  pub asked : Request
  pub result : Result Octets Error

-- as it leaves, when a cache has looked at it
abbrev pub leaving_of : Settings → Gave → Leaving
leaving_of st x = outcome st x.request x.asked x.result

-- what is given with it
abbrev pub post_of : Gave → Post
post_of x = record { request = x.request; result = x.result }

-- Of x, y differs so: request k is tried, or has left.
pub record HasTakenOn {U : Type 0} (k : ℕ) (request : Request) (x y : Upper U) : Type 0 where
  pub unused : x.held k ≡ None
  pub moment : ℕ
  pub held : y.held ≡ with_at k (Some (newcomer request moment)) x.held
  pub ups : y.ups ≡ x.ups
  pub place : y.place ≡ x.place
  pub board : y.board ≡ x.board

pub record HasLeft {U : Type 0} (k : ℕ) (x y : Upper U) : Type 0 where
  pub held : y.held ≡ with_at k None x.held
  pub ups : y.ups ≡ x.ups
  pub place : y.place ≡ x.place
  pub board : y.board ≡ x.board

module _ {c : Conf} (st : Settings) (P : ServerPart c) {U : Type 0} (Tied : Phase → U → Sight → Upper P.State → Type 0) (names : U → (ticket : ℕ) → Option ℕ) (Owns : U → (timer : ℕ) → Type 0) where
  -- What a call leaves of a transport u and its view v is what moves from a state leave, and it is tied again: each result on the board is that of a request that leaves, as a cache makes it. `named` has the tickets whose results may be given.
  pub record Leaves (named : ℕ → Option ℕ) (from : Upper P.State) (u : U) (v : View) (phase : Phase) (w : U) (y : View) : Type 0 where
    pub outs : List Out
    pub end : Upper P.State
    pub leads : moves.Leads st composed P from outs end
    pub put : y.outs ≡ v.outs ++ outs
    pub board : List Posted
    pub posted : y.board ≡ v.board ++ board
    pub given : List Gave
    pub leaves : end.leaving ≡ from.leaving ++ map (leaving_of st) given
    pub gives : Gives named board (map post_of given) (names w)
    pub now : end.now ≡ from.now
    pub asked : end.asked ≡ from.asked
    pub pending : end.pending ≡ from.pending
    pub tied : Tied phase w (sight y) end
    pub goes_on : Follows v y
    -- a timer of its own is one that it had, or a new one, and others stay as they are
    pub owned : (i : ℕ) → Owns w i → Owns u i ⊎ (v.timers.next ≤ i)
    pub others : (i due : ℕ) → (Owns u i → ⊥) → due_of i v.timers.set ≡ Some due → due_of i y.timers.set ≡ Some due

  -- The same after an event, or after a frame: `more` says whether another frame stands at the place.
  pub record Tells (from : Upper P.State) (u : U) (v : View) (MayBe : (place left : ℕ) → Type 0) (w : U) (y : View) : Type 0 where
    pub at : ℕ
    pub left : ℕ
    pub may_be : MayBe at left
    pub more : y.more ≡ nat_lt 0 left
    pub leaves : Leaves (names u) from u v (Told at left) w y

  -- A request that is given up gives nothing.
  pub record LeavesQuietly (named : ℕ → Option ℕ) (from : Upper P.State) (u : U) (v : View) (phase : Phase) (w : U) (y : View) : Type 0 where
    pub leaves : Leaves named from u v phase w y
    pub nothing : leaves.board ≡ []

-- The tie of a transport to the whole of a client: `Tied` relates what it is, and what is seen, to the client's state. `names` has the number of the request of each ticket whose result is to come, and it owns the timers that it set. A timer that fires is taken out before.
pub record IsWholeTie {c : Conf} (st : Settings) (P : ServerPart c) {U R : Type 0} (t : Transport Request U R) (ticket : R → ℕ) (first : U) (Tied : Phase → U → Sight → Upper P.State → Type 0) (names : U → (ticket : ℕ) → Option ℕ) (Owns : U → (timer : ℕ) → Type 0) : Type 0 where
  pub fresh : (x : Sight) → x.now ≡ 0 → x.place ≡ 0 → Tied (Told 0 0) first x (begun c st composed P)
  -- it looks at no timer of others, at numbers only from below, and at nothing else of the client
  pub same : (phase : Phase) (u : U) (x y : Sight) (a : Upper P.State) → Tied phase u x a → y.now ≡ x.now → ((i : ℕ) → Owns u i → y.dues i ≡ x.dues i) → x.timer ≤ y.timer → x.ticket ≤ y.ticket → y.place ≡ x.place → Tied phase u y a
  pub alike : (phase : Phase) (u : U) (x : Sight) (a b : Upper P.State) → Tied phase u x a → b.held ≡ a.held → b.ups ≡ a.ups → b.place ≡ a.place → b.board ≡ a.board → Tied phase u x b
  pub taken : (phase : Phase) (u : U) (x : Sight) (a : Upper P.State) → Tied phase u x a → a.board ≡ []
  pub set : (phase : Phase) (u : U) (x : Sight) (a : Upper P.State) (i : ℕ) → Tied phase u x a → Owns u i → (due : ℕ) × (x.dues i ≡ Some due)
  pub named : (phase : Phase) (u : U) (x : Sight) (a : Upper P.State) (i k : ℕ) → Tied phase u x a → names u i ≡ Some k → (i < x.ticket) × (is_some (a.held k) ≡ true)
  pub held : (phase : Phase) (u : U) (x : Sight) (a : Upper P.State) (k : ℕ) → Tied phase u x a → is_some (a.held k) ≡ true → (i : ℕ) × (names u i ≡ Some k)
  pub response : (r : Request) (u : U) (v : View) → ticket (t.response r u v) ≡ v.ticket
  -- servers hold those requests alone that are tried, and each of these is held by one
  pub tried_alone : (phase : Phase) (u : U) (x : Sight) (a : Upper P.State) (s k : ℕ) → Tied phase u x a → s < length c.servers → P.holds (a.ups s) k ≡ true → is_some (a.held k) ≡ true
  pub waits : (phase : Phase) (u : U) (x : Sight) (a : Upper P.State) (k : ℕ) → Tied phase u x a → is_some (a.held k) ≡ true → (s : ℕ) × (s < length c.servers) × (P.holds (a.ups s) k ≡ true)
  -- a row begins; and where it may end, and no timer is due, each server rests
  pub begins : (phase : Phase) (u : U) (x : Sight) (a : Upper P.State) (e : Event) → MayEnd phase → Tied phase u x a → Tied (Untold e.what) u (record x { now = max e.moment.0 x.now }) (row_begins c st composed P e a)
  pub rests : (phase : Phase) (u : U) (v : View) (a : Upper P.State) (s : ℕ) → MayEnd phase → IsEarly v → Tied phase u (sight v) a → s < length c.servers → P.Rests (a.ups s)
  -- The calls. Requests are asked and given up before the event is told.
  pub fires : (phase : Phase) (u : U) (v : View) (a : Upper P.State) (i due : ℕ) → Tied phase u (sight v) a → IsFair v → due_of i v.timers.set ≡ Some due → due ≤ v.now
      → Leads (Leaves st P Tied names Owns (names u) a u (record v { timers = cancelled i v.timers }) phase) (t.step (due_timer i) u (record v { timers = cancelled i v.timers }))
  pub sends : (u : U) (v : View) (a b : Upper P.State) (w : What) (r : Request) → 0 < length c.servers → Tied (Untold w) u (sight v) a → IsFair v → IsOfOctets r → HasTakenOn v.request r a b
      → Leads (Leaves st P Tied names Owns (with_at v.ticket (Some v.request) (names u)) b u v (Untold w)) (t.send r u v)
  pub cancels : (u : U) (v : View) (a b : Upper P.State) (w : What) (r : R) (k : ℕ) → Tied (Untold w) u (sight v) a → IsFair v → names u (ticket r) ≡ Some k → HasLeft k a b
      → Leads (LeavesQuietly st P Tied names Owns (with_at (ticket r) None (names u)) b u v (Untold w)) (t.cancel r u v)
  pub tells : (u : U) (v : View) (a : Upper P.State) (w : What) (p : ℕ) → Tied (Untold w) u (sight v) a → IsFair v → IsEarly v → v.more ≡ false → place_in w ≡ Some p
      → Leads (Tells st P Tied names Owns a u v (MayLeave w)) (t.step (told w) u v)
  pub takes : (u : U) (v : View) (a : Upper P.State) (p n : ℕ) → Tied (Told p (suc n)) u (sight v) a → IsFair v → v.more ≡ false
      → Leads (Tells st P Tied names Owns a u v (λ q left. (q ≡ p) × (left ≤ n))) (t.step (more_at p) u v)
