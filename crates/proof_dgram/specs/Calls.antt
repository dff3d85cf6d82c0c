-- What each call of a datagram connection leaves, beside the moves of the machine.
use Rattle.std.specs.Prelude.{◌≡◌, ℕ, ◌<◌, ◌≤◌, ◌⊎◌, true, false, List, [], ◌∷◌, ◌++◌, Option, Some, None, Ok, Err}
use Rattle.client_request.specs.Carries.{IsOfOctets}
use Rattle.client_request.specs.Numbered.{entry_at}
use Rattle.client_request.specs.Request.{Request}
use Rattle.client_request.specs.Requests.{for_one}
use Rattle.client_request.specs.Timers.{cancelled}
use Rattle.client_request.specs.View.{View}
use Rattle.client_request.specs.declared.board.Posted.{Posted}
use Rattle.client_request.specs.declared.event.Out.TheVariants.{Close}
use Rattle.client_request.specs.declared.event.What.{What}
use Rattle.client_dgram.specs.Plain.{Tables, late, takes, drops, tells}
use Rattle.right_settings.specs.Given.{dgrams_of}
use Rattle.right_trace.specs.Messages.{Octets, truncated}
use Rattle.proof_right.specs.machine.Part.{Act}
use Rattle.proof_right.specs.machine.Served.{IsSettled}
use Rattle.proof_right.specs.machine.Streams as multi
use Rattle.right_trace.specs.Updates.{with_at}
use Rattle.proof_right.specs.machine.Dgrams.{Queued, Trying, Sent, Ending, Cut, Tryer, Dgrams, staged, leave, forget, Meets, IsIgnored}
use Rattle.client_request.specs.declared.error.Error.TheVariants as errors
use Rattle.proof_parts.specs.Chains.{then_act, Gives}
use Rattle.proof_parts.specs.Sights.{sight, due_of, IsFair}
use Rattle.proof_dgram.specs.Slots.{AreSlots, names_of}
use Rattle.proof_dgram.specs.Steps.{made_by, AtOnce, Steps}
use Rattle.right_trace.specs.Trace.{Conf}

-- P holds of what a call leaves, if it leaves anything
abbrev pub Leads : (Tables Request → View → Type 0) → Option (Tables Request × View) → Type 0
Leads P None = Unit {0}
Leads P (Some x) = P x.0 x.1

-- The view after a call: it is fair as before, its moment and its request are the same, numbers go on, and a timer that is set was set before or is not due.
pub record IsAfter (v w : View) : Type 0 where
  pub fair : IsFair w
  pub now : w.now ≡ v.now
  pub request : w.request ≡ v.request
  pub more : w.more ≡ v.more
  pub timer : v.timers.next ≤ w.timers.next
  pub ticket : v.ticket ≤ w.ticket
  pub place : v.place ≤ w.place
  pub later : (i due : ℕ) → due_of i w.timers.set ≡ Some due → (due_of i v.timers.set ≡ Some due) ⊎ ((v.now < due) × (v.timers.next ≤ i))

-- a timer that a table has
abbrev pub Owns : Tables Request → (timer : ℕ) → Type 0
Owns s i = (t : ℕ) × (entry_at i s.timers ≡ Some t)

-- A timer or a place of its own is one that it had, or a new one, and timers of others stay as they are.
pub record KeepsApart (s : Tables Request) (d : Dgrams) (v : View) (t : Tables Request) (e : Dgrams) (w : View) : Type 0 where
  pub owned : (i : ℕ) → Owns t i → Owns s i ⊎ (v.timers.next ≤ i)
  pub others : (i due : ℕ) → (Owns s i → ⊥) → due_of i v.timers.set ≡ Some due → due_of i w.timers.set ≡ Some due
  pub places : (p k : ℕ) → e.at p ≡ Some k → ((j : ℕ) × (d.at p ≡ Some j)) ⊎ (v.place ≤ p)

-- What a call leaves is what these moves leave.
pub record Leaves (c : Conf) (s : Tables Request) (d : Dgrams) (v : View) (made : Act Dgrams) (t : Tables Request) (w : View) : Type 0 where
  pub outs : w.outs ≡ v.outs ++ made.outs
  pub place : w.place ≡ made.place
  pub slots : AreSlots c 0 t made.state (sight w)
  pub after : IsAfter v w
  pub apart : KeepsApart s d v t made.state w

-- What is on the board is what they give. `named` has the tickets whose results may be given.
pub record Posts (named : ℕ → Option ℕ) (v : View) (made : Act Dgrams) (t : Tables Request) (w : View) : Type 0 where
  pub board : List Posted
  pub put : w.board ≡ v.board ++ board
  pub gives : Gives named board made.posts (names_of t)

-- A timer fires.
pub record HasFired (c : Conf) (server : ℕ) (s : Tables Request) (d : Dgrams) (v : View) (t : Tables Request) (w : View) : Type 0 where
  pub made : Act Dgrams
  pub steps : Steps c server v.now v.place d made
  pub leaves : Leaves c s d v made t w
  pub posts : Posts (names_of s) v made t w

-- the machine with one more request, which is queued
abbrev pub with_request : (k : ℕ) → Request → Dgrams → Dgrams
with_request k r d = record d { held = with_at k (Some (record { request = r; tries = 0; stage = Queued })) d.held }

-- A request is taken on.
pub record HasTaken (c : Conf) (server : ℕ) (r : Request) (s : Tables Request) (d : Dgrams) (v : View) (t : Tables Request) (w : View) : Type 0 where
  pub made : Act Dgrams
  pub steps : Steps c server v.now v.place (with_request v.request r d) made
  pub leaves : Leaves c s d v made t w
  pub drawn : v.ticket < w.ticket
  pub posts : Posts (with_at v.ticket (Some v.request) (names_of s)) v made t w

-- A request is let go: it waits, or has a place, which is closed.
pub data LetsGo (k place : ℕ) (d : Dgrams) : Act Dgrams → Type 0 where
  Waits : (a : Tryer) → d.held k ≡ Some a → a.stage ≡ Queued → LetsGo k place d (made_by place multi.Nothing (forget k d))
  HasPlace : (a : Tryer) (p : ℕ) → d.held k ≡ Some a → (a.stage ≡ Trying p) ⊎ ((id : ℕ) × (t : ℕ) × (a.stage ≡ Sent p id t)) → LetsGo k place d (made_by place (multi.Puts (Close p)) (forget k (leave p k a (Ending (Err errors.TimedOut)) d)))

pub record HasDropped (c : Conf) (server ticket k : ℕ) (s : Tables Request) (d : Dgrams) (v : View) (t : Tables Request) (w : View) : Type 0 where
  pub first : Act Dgrams
  pub lets : LetsGo k v.place d first
  pub made : Act Dgrams
  pub steps : Steps c server v.now first.place first.state made
  pub leaves : Leaves c s d v (then_act first made) t w
  pub nothing : (then_act first made).posts ≡ []
  pub board : w.board ≡ v.board
  pub names : (i : ℕ) → names_of t i ≡ with_at ticket None (names_of s) i

-- A cut answer came for request k: the message is on the board, and its place is closed. In the machine the request is still one whose answer was cut, until it goes on by stream.
pub record HasCut (c : Conf) (server : ℕ) (what : What) (s : Tables Request) (d : Dgrams) (v : View) (t : Tables Request) (w : View) : Type 0 where
  pub ticket : ℕ
  pub request : ℕ
  pub named : names_of s ticket ≡ Some request
  pub tryer : Tryer
  pub is_held : d.held request ≡ Some tryer
  pub octets : IsOfOctets tryer.request
  pub message : Octets
  pub cut : truncated message ≡ true
  pub at : ℕ
  pub meets : Meets c v.now d what (multi.Puts (Close at)) (leave at request tryer Cut d)
  pub settled : IsSettled (leave at request tryer Cut d)
  pub made : Act Dgrams
  pub steps : Steps c server v.now v.place (leave at request tryer Cut d) made
  pub is_cut : made.state.held request ≡ Some (staged tryer Cut)
  pub nothing : made.posts ≡ []
  pub leaves : Leaves c s d v (then_act (made_by v.place (multi.Puts (Close at)) d) (record made { state = forget request made.state })) t w
  pub put : w.board ≡ v.board ++ record { ticket = ticket; part = Ok (Some message); is_stale = false } ∷ []
  pub names : (i : ℕ) → names_of t i ≡ with_at ticket None (names_of s) i

-- What an event does: nothing; a move that may give a result, and others behind it; or that a cut answer came.
pub data HasTold (c : Conf) (server : ℕ) (what : What) (s : Tables Request) (d : Dgrams) (v : View) (t : Tables Request) (w : View) : Type 0 where
  Passes : IsIgnored c what d → t ≡ s → w ≡ v → HasTold c server what s d v t w
  Moves : (x : multi.Act) (e : Dgrams) (first made : Act Dgrams) → Meets c v.now d what x e → AtOnce v.place x e first → Steps c server v.now first.place first.state made → Leaves c s d v (then_act first made) t w → Posts (names_of s) v (then_act first made) t w → HasTold c server what s d v t w
  Cuts : HasCut c server what s d v t w → HasTold c server what s d v t w

-- Each call of a datagram connection that is tied leaves what the machine's moves leave, and it is tied again.
pub record CallsAreMoves (c : Conf) : Type 0 where
  pub fires : (server : ℕ) (s : Tables Request) (d : Dgrams) (v : View) (i due : ℕ) → AreSlots c 0 s d (sight v) → IsFair v → due_of i v.timers.set ≡ Some due → due ≤ v.now → Leads (HasFired c server s d (record v { timers = cancelled i v.timers })) (late server i s (record v { timers = cancelled i v.timers }))
  pub sends : (server : ℕ) (s : Tables Request) (d : Dgrams) (v : View) (r : Request) → AreSlots c 0 s d (sight v) → IsFair v → IsOfOctets r → d.held v.request ≡ None → Leads (HasTaken c server r s d v) (takes for_one server (dgrams_of c) r s v)
  pub cancels : (server : ℕ) (s : Tables Request) (d : Dgrams) (v : View) (ticket k : ℕ) → AreSlots c 0 s d (sight v) → IsFair v → names_of s ticket ≡ Some k → Leads (HasDropped c server ticket k s d v) (drops server ticket s v)
  pub tells : (server : ℕ) (s : Tables Request) (d : Dgrams) (v : View) (what : What) → AreSlots c 0 s d (sight v) → IsFair v → Leads (HasTold c server what s d v) (tells for_one server (dgrams_of c) what s v)
