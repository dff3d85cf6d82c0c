-- The servers of a choice beside the parts of the machine, and what one call of one of them leaves of all.
use Rattle.std.specs.Prelude.{◌≡◌, ℕ, ◌<◌, ◌≤◌, ◌⊎◌, true, List, [], ◌∷◌, ◌++◌, length, nat_lt, Option, Some, None, Result, slice_get, set}
use Rattle.client_request.specs.Composed.{composed}
use Rattle.client_request.specs.Numbered.{puts, frees}
use Rattle.client_request.specs.View.{View}
use Rattle.client_request.specs.declared.board.Posted.{Posted}
use Rattle.client_request.specs.declared.error.Error.{Error}
use Rattle.client_choice.specs.Servers.{Server}
use Rattle.client_choice.specs.declared.servers.Reply.{Reply}
use Rattle.client_choice.specs.declared.servers.Reply.TheVariants.{Later, Now}
use Rattle.right_trace.specs.Messages.{Octets}
use Rattle.proof_right.specs.machine.Part.{Act, Post}
use Rattle.proof_right.specs.machine.Client.{Upper, Waiting, hand, with_up}
use Rattle.right_trace.specs.Updates.{with_at}
use Rattle.proof_parts.specs.Chains.{Gives, part_of}
use Rattle.proof_parts.specs.Leading.{Leads, IsMoved}
use Rattle.proof_parts.specs.PartTie.{Phase, Told, Leaves, GoesOn}
use Rattle.proof_parts.specs.Sights.{sight, due_of, IsFair}
use Rattle.proof_choice.specs.Choosing.{Choosing}

module _ (g : Choosing) where
  abbrev pub State : Type 0
  State = Upper g.P.State

  abbrev pub Listed : Type 0
  Listed = List (Server g.U)

  -- No place is open at two servers, and each that is open was given.
  pub record AreApartAt (ups : ℕ → g.P.State) (next : ℕ) : Type 0 where
    pub places : (s q p : ℕ) → s < length (g.c).servers → q < length (g.c).servers → g.has (ups s) p ≡ true → g.has (ups q) p ≡ true → s ≡ q
    pub below : (s p : ℕ) → s < length (g.c).servers → g.has (ups s) p ≡ true → p < next

  -- Each server is tied to its part, at its phase, and no two own the same timer or have the same place.
  pub record AreTied (phase : ℕ → Phase) (servers : Listed) (v : View) (x : State) : Type 0 where
    pub count : length servers ≡ length (g.c).servers
    pub tied : (s : ℕ) (a : Server g.U) → slice_get servers s ≡ Some a → g.Tied s (phase s) a.upstream (sight v) (x.ups s)
    pub apart : (s q i : ℕ) (a b : Server g.U) → slice_get servers s ≡ Some a → slice_get servers q ≡ Some b → g.Owns a.upstream i → g.Owns b.upstream i → s ≡ q
    pub fair : IsFair v
    pub place : x.place ≡ v.place
    pub places : AreApartAt x.ups x.place

  -- so is each but server s, while it is called
  pub record OthersAreTied (s : ℕ) (phase : ℕ → Phase) (servers : Listed) (v : View) (x : State) : Type 0 where
    pub count : length servers ≡ length (g.c).servers
    pub tied : (q : ℕ) (a : Server g.U) → (s ≡ q → ⊥) → slice_get servers q ≡ Some a → g.Tied q (phase q) a.upstream (sight v) (x.ups q)
    pub apart : (s q i : ℕ) (a b : Server g.U) → slice_get servers s ≡ Some a → slice_get servers q ≡ Some b → g.Owns a.upstream i → g.Owns b.upstream i → s ≡ q
    pub fair : IsFair v
    pub place : x.place ≡ v.place
    pub places : AreApartAt x.ups x.place

  -- An act opens no place but the next ones.
  pub record OpensOn (place : ℕ) (u : g.P.State) (made : Act g.P.State) : Type 0 where
    pub on : place ≤ made.place
    pub opened : (p : ℕ) → g.has made.state p ≡ true → (g.has u p ≡ true) ⊎ ((place ≤ p) × (p < made.place))

  -- two views of one moment, with the same timers and numbers
  pub record SeenAlike (v w : View) : Type 0 where
    pub now : w.now ≡ v.now
    pub timers : w.timers ≡ v.timers
    pub ticket : w.ticket ≡ v.ticket
    pub place : w.place ≡ v.place
    pub words : w.words ≡ v.words

  -- A call of server s: from a view like v it leaves what an act of its part leaves, and so did the machine.
  pub record IsCalled (s : ℕ) (May : Act g.P.State → Type 0) (named : ℕ → Option ℕ) (a b : Server g.U) (v w : View) (phase : Phase) (x y : State) : Type 0 where
    pub before : View
    pub after : View
    pub from : SeenAlike v before
    pub to : SeenAlike after w
    pub leaves : Leaves g.P (g.Tied s) g.names g.Owns May named a.upstream before phase b.upstream after
    pub moved : IsMoved g.st composed g.P s x leaves.made y
    pub opens : OpensOn x.place (x.ups s) leaves.made

  -- What a call of server s, a before and b after, leaves of all servers, of the view and of the machine: it was at x, moves led there from `from`, and `named` has the tickets whose results may be given.
  pub record AfterCall (phase : ℕ → Phase) (s : ℕ) (a b : Server g.U) (named : ℕ → Option ℕ) (board : List Posted) (servers : Listed) (v : View) (from x : State) (w : View) : Type 0 where
    pub made : Act g.P.State
    pub end : State
    pub leads : Leads g.st composed g.P from made.outs end
    pub moved : IsMoved g.st composed g.P s x made end
    pub put : w.outs ≡ v.outs ++ made.outs
    pub gives : Gives named board made.posts (g.names b.upstream)
    pub tied : AreTied phase (set servers s b) w end
    pub goes_on : GoesOn v w
    pub owned : (i : ℕ) → g.Owns b.upstream i → g.Owns a.upstream i ⊎ (v.timers.next ≤ i)
    pub others : (i due : ℕ) → (g.Owns a.upstream i → ⊥) → due_of i v.timers.set ≡ Some due → due_of i w.timers.set ≡ Some due

  -- Server s gives request k up, whose ticket there is `ticket`.
  pub record IsDropped (phase : ℕ → Phase) (s k ticket : ℕ) (a : Server g.U) (servers : Listed) (v : View) (x : State) (listed : Listed) (w : View) : Type 0 where
    pub server : Server g.U
    pub lists : listed ≡ set servers s server
    pub waiting : server.waiting ≡ frees ticket a.waiting
    pub posted : server.posted ≡ []
    pub board : w.board ≡ v.board
    pub more : w.more ≡ v.more
    pub call : AfterCall phase s a server (with_at ticket None (g.names a.upstream)) [] servers v x x w

  -- What a request got that was started: what stands for its result, which is to come under `ticket`; or the result.
  pub data HasReply (k lower ticket : ℕ) (a b : Server g.U) (posts : List Post) (y : Option (Reply g.R)) : Type 0 where
    Comes : (r : g.R) → y ≡ Some (Later r) → g.ticket r ≡ lower → posts ≡ [] → b.waiting ≡ puts lower ticket a.waiting
        → ((i : ℕ) → g.names b.upstream i ≡ with_at lower (Some k) (g.names a.upstream) i) → HasReply k lower ticket a b posts y
    Came : (result : Result Octets Error) → y ≡ Some (Now (part_of result)) → posts ≡ record { request = k; result = result } ∷ [] → b.waiting ≡ a.waiting
        → ((i : ℕ) → g.names b.upstream i ≡ g.names a.upstream i) → HasReply k lower ticket a b posts y

  -- Request k, which is tried as `ask` says, is started at server s.
  pub record IsStarted (phase : ℕ → Phase) (s k ticket : ℕ) (ask : Waiting) (a : Server g.U) (servers : Listed) (v : View) (x : State) (y : Option (Reply g.R) × Listed) (w : View) : Type 0 where
    pub server : Server g.U
    pub lists : y.1 ≡ set servers s server
    pub posted : server.posted ≡ []
    pub board : w.board ≡ v.board
    pub more : w.more ≡ v.more
    pub given : List Posted
    pub call : AfterCall phase s a server (with_at v.ticket (Some k) (g.names a.upstream)) given servers v x (hand k s ask x) w
    pub reply : HasReply k v.ticket ticket a server call.made.posts y.0
    pub fits : (r : g.R) → y.0 ≡ Some (Later r) → g.Fits s r

  -- Server s hears something.
  pub record IsHeard (phase : ℕ → Phase) (s : ℕ) (a : Server g.U) (servers : Listed) (v : View) (x : State) (y : List Posted × Listed) (w : View) : Type 0 where
    pub server : Server g.U
    pub lists : y.1 ≡ set servers s server
    pub waiting : server.waiting ≡ a.waiting
    pub posted : server.posted ≡ []
    pub board : w.board ≡ v.board
    pub call : AfterCall phase s a server (g.names a.upstream) y.0 servers v x x w

  -- It hears that something happened, or takes a frame: then so many frames are left for it at a place.
  pub record IsTold (phase : ℕ → Phase) (s : ℕ) (a : Server g.U) (servers : Listed) (v : View) (x : State) (MayBe : (place left : ℕ) → Type 0) (y : List Posted × Listed) (w : View) : Type 0 where
    pub at : ℕ
    pub left : ℕ
    pub may_be : MayBe at left
    pub more : w.more ≡ nat_lt 0 left
    pub heard : IsHeard (with_up s (Told at left) phase) s a servers v x y w

-- Whatever server is called, the others stay tied as they were.
abbrev pub OthersStayTied : Type 1
OthersStayTied = (g : Choosing) (s : ℕ) (May : Act g.P.State → Type 0) (named : ℕ → Option ℕ) (phase after : ℕ → Phase) (servers : Listed g) (a b : Server g.U) (v w : View) (x y : State g)
    → OthersAreTied g s phase servers v x → slice_get servers s ≡ Some a → IsCalled g s May named a b v w (after s) x y → ((q : ℕ) → (s ≡ q → ⊥) → after q ≡ phase q)
    → AreTied g after (set servers s b) w y
