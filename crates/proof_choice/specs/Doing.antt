-- What a call of the choice leaves of a request: it waits on in the table, or its result stands on the board, and leaves in the machine as a cache makes it.
use Rattle.std.specs.Prelude.{◌≡◌, ℕ, suc, ◌<◌, ◌≤◌, Bool, false, nat_lt, List, [], ◌∷◌, ◌++◌, length, map, Option, Some, None, option_map, slice_get}
use Rattle.client_request.specs.Board.{Part}
use Rattle.client_request.specs.Carries.{IsOfOctets}
use Rattle.client_request.specs.Numbered.{entry_at}
use Rattle.client_request.specs.Request.{Request}
use Rattle.client_request.specs.Timers.{cancelled}
use Rattle.client_request.specs.View.{View, Heard, told, more_at, due_timer}
use Rattle.client_request.specs.declared.board.Posted.{Posted as OnBoard}
use Rattle.client_request.specs.declared.event.What.{What}
use Rattle.client_choice.specs.Choice.{Choice, takes_on, drops, due, runs, settles_all, hears_one}
use Rattle.client_choice.specs.Redundant.{by_estimate, with_probe}
use Rattle.client_choice.specs.Servers.{Server}
use Rattle.client_choice.specs.declared.job.ListedServer.{ListedServer}
use Rattle.right_trace.specs.Parts.{IsIn}
use Rattle.proof_right.specs.machine.Client.{Posted, tag, with_up}
use Rattle.proof_right.specs.machine.Part.{Post}
use Rattle.right_trace.specs.Updates.{with_at}
use Rattle.proof_parts.specs.Chains.{part_of, Gives}
use Rattle.proof_parts.specs.Lines.{Sorted}
use Rattle.proof_parts.specs.PartTie.{Phase, Untold, Told, Passed, MayLeave, IsOpen, Leads, place_in}
use Rattle.proof_parts.specs.Sights.{sight, due_of, NoneDue}
use Rattle.proof_parts.specs.WholeTie.{HasLeft, HasTakenOn, Gave, leaving_of, post_of}
use Rattle.proof_choice.specs.Choosing.{Choosing}
use Rattle.proof_choice.specs.Servers.{State, AreTied}
use Rattle.proof_choice.specs.Requests.{AreToStart, Others, Beside, Work, Begun, IsToStart, Stands, Went, IsAside}

module _ (g : Choosing) (beside : Beside) (phase : ℕ → Phase) (current : ℕ) where
  -- What becomes of a request that was in hand: it waits in the table, or its result stands on the board, and leaves in the machine as a cache makes it.
  pub data HasCome (t k : ℕ) (v : View) (x : State g) (d : Choice Request g.U g.R) (w : View) (y : State g) : Type 0 where
    WaitsOn : (job : Work g) → entry_at t d.jobs ≡ Some job → job.number ≡ k → w.board ≡ v.board → y.leaving ≡ x.leaving → HasCome t k v x d w y
    Goes : (z : Gave) → entry_at t d.jobs ≡ None → y.leaving ≡ x.leaving ++ leaving_of g.st z ∷ [] → z.request ≡ k → w.board ≡ v.board ++ record { ticket = t; part = part_of z.result; is_stale = false } ∷ [] → HasCome t k v x d w y

  pub record HasDone (t k : ℕ) (table : ℕ → Option (Work g)) (rest : List Posted) (named : ℕ → ℕ → Option ℕ) (v : View) (x : State g) (d : Choice Request g.U g.R) (w : View) : Type 0 where
    pub named' : ℕ → ℕ → Option ℕ
    pub end : State g
    pub went : Went g v x w end
    pub stands : Stands g beside phase current (λ j. entry_at j d.jobs) named' 0 [] d w end
    pub sorted : (hi : ℕ) × Sorted 0 hi d.jobs
    pub others : (j : ℕ) → (t ≡ j → ⊥) → entry_at j d.jobs ≡ table j
    pub board : end.board ≡ rest
    pub more : w.more ≡ v.more
    pub same_there : (i : ℕ) → named' current i ≡ named current i
    pub come : HasCome t k v x d w end

  -- What is known of a request in hand, whose timer is not set.
  pub record InHand (t : ℕ) (es : List ListedServer) (job : Work g) (table : ℕ → Option (Work g)) (named : ℕ → ℕ → Option ℕ) (c : Choice Request g.U g.R) (v : View) (x : State g) : Type 0 where
    pub left : job.left ≡ es
    pub calm : job.timer ≡ None
    pub has : es ≡ [] → (part : Part) × (job.deferred ≡ Some part)
    pub aside : IsToStart current es → ⊥
    pub clear : (b : Begun g) → IsIn b job.started → (r : g.R) → b.response ≡ Some r → current ≡ b.server → ⊥
    pub pending : (y : Posted) → IsIn y x.board → (current < length (g.c).servers) × ((i : ℕ) × (named current i ≡ Some y.request))
    pub is_table : table ≡ (λ j. entry_at j c.jobs)
    pub new : table t ≡ None
    pub sorted : (hi : ℕ) × Sorted 0 hi c.jobs
    pub stands : Stands g beside phase current (with_at t (Some job) table) named 0 [] c v x

-- Whichever servers a request is started at: what the choice leaves is what moves of the machine leave.
abbrev pub RunsAreMoves : Choosing → Type 0
RunsAreMoves g = (beside : Beside) (phase : ℕ → Phase) (current : ℕ) (es : List ListedServer) (t : ℕ) (job : Work g) (table : ℕ → Option (Work g))
    → (named : ℕ → ℕ → Option ℕ) (c : Choice Request g.U g.R) (v : View) (x : State g)
    → InHand g beside phase current t es job table named c v x → Leads (HasDone g beside phase current t job.number table x.board named v x) (runs g.below g.settings t es job c v)

module _ (g : Choosing) where
  -- the number of the request of each ticket
  abbrev pub numbers_of : List (ℕ × Work g) → (ticket : ℕ) → Option ℕ
  numbers_of jobs t = option_map (λ job. job.number) (entry_at t jobs)

  module _ (others : Others) (phase : ℕ → Phase) (current : ℕ) where
    -- The choice between two calls: no request is in hand, and of the current server each result was taken that was named there.
    pub record IsStill (left : ℕ → Option ℕ) (named : ℕ → ℕ → Option ℕ) (c : Choice Request g.U g.R) (v : View) (x : State g) : Type 0 where
      pub stands : Stands g (record { others = others; left = left }) phase current (λ j. entry_at j c.jobs) named 0 [] c v x
      pub names : (i : ℕ) → named current i ≡ left i
      pub sorted : (hi : ℕ) × Sorted 0 hi c.jobs
      pub board : x.board ≡ []

    -- What a call leaves that began at v and x: it is still again, and what is put on the board has left in the machine.
    -- `numbers` has the number of the request of each ticket whose result may be given, and `more` says whether a frame stands at a place.
    pub record HasActed (numbers : ℕ → Option ℕ) (left : ℕ → Option ℕ) (more : Bool) (v : View) (x : State g) (d : Choice Request g.U g.R) (w : View) : Type 0 where
      pub named : ℕ → ℕ → Option ℕ
      pub end : State g
      pub went : Went g v x w end
      pub still : IsStill left named d w end
      pub given : List OnBoard
      pub gave : List Gave
      pub put : w.board ≡ v.board ++ given
      pub leaves : end.leaving ≡ x.leaving ++ map (leaving_of g.st) gave
      pub answers : Gives numbers given (map post_of gave) (numbers_of d.jobs)
      pub says : w.more ≡ more

    -- The same, where what is still to come from the current server is another than before.
    pub record HasHeard (numbers : ℕ → Option ℕ) (v : View) (x : State g) (d : Choice Request g.U g.R) (w : View) : Type 0 where
      pub left : ℕ → Option ℕ
      pub acted : HasActed numbers left w.more v x d w

    -- A request that is given up gives nothing.
    pub record HasDropped (numbers : ℕ → Option ℕ) (left : ℕ → Option ℕ) (v : View) (x : State g) (d : Choice Request g.U g.R) (w : View) : Type 0 where
      pub acted : HasActed numbers left v.more v x d w
      pub nothing : acted.given ≡ []

  -- After an event, or after a frame: so many frames are left for server s at a place.
  pub record HasTold (others : Others) (phase : ℕ → Phase) (s : ℕ) (MayBe : (place frames : ℕ) → Type 0) (numbers : ℕ → Option ℕ)
      (v : View) (x : State g) (d : Choice Request g.U g.R) (w : View) : Type 0 where
    pub at : ℕ
    pub frames : ℕ
    pub may_be : MayBe at frames
    pub left : ℕ → Option ℕ
    pub acted : HasActed others (with_up s (Told at frames) phase) s numbers left (nat_lt 0 frames) v x d w

-- no server's results are being taken
abbrev pub nobody : Choosing → ℕ
nobody g = length (g.c).servers

-- ---- whose results are taken

-- A server that may be called is as any other, once each result of it was taken.
abbrev pub TurningAway : Choosing → Type 0
TurningAway g = (others : Others) (phase : ℕ → Phase) (s : ℕ) (left : ℕ → Option ℕ) (named : ℕ → ℕ → Option ℕ) (c : Choice Request g.U g.R) (v : View) (x : State g)
    → IsStill g others phase s left named c v x → IsOpen (phase s) v.place → IsStill g others phase (nobody g) (named (nobody g)) named c v x

-- And the results of any may be taken next.
abbrev pub TurningTo : Choosing → Type 0
TurningTo g = (others : Others) (phase : ℕ → Phase) (s : ℕ) (left : ℕ → Option ℕ) (named : ℕ → ℕ → Option ℕ) (c : Choice Request g.U g.R) (v : View) (x : State g)
    → s < length (g.c).servers → IsStill g others phase (nobody g) left named c v x → IsStill g others phase s (named s) named c v x

-- ---- requests

-- What a server posted is taken: what the choice leaves is what moves of the machine leave, and each result on the board is that of the request of its ticket.
abbrev pub ResultsAreMoves : Choosing → Type 0
ResultsAreMoves g = (others : Others) (phase : ℕ → Phase) (current : ℕ) (left : ℕ → Option ℕ) (ps : List OnBoard) (qs : List Post)
    → (named : ℕ → ℕ → Option ℕ) (c : Choice Request g.U g.R) (v : View) (x : State g)
    → Stands g (record { others = others; left = left }) phase current (λ j. entry_at j c.jobs) named 0 [] c v x → (hi : ℕ) × Sorted 0 hi c.jobs
    → current < length (g.c).servers → Gives (named current) ps qs left → x.board ≡ map (tag current) qs
    → Leads (HasActed g others phase current (numbers_of g c.jobs) left v.more v x) (settles_all g.below g.settings current ps c v)

-- A request that has left the machine is given up by moves.
abbrev pub CancellingIsMoves : Choosing → Type 0
CancellingIsMoves g = (others : Others) (phase : ℕ → Phase) (t : ℕ) (job : Work g) (left : ℕ → Option ℕ) (named : ℕ → ℕ → Option ℕ) (c : Choice Request g.U g.R) (v : View) (x y : State g)
    → IsStill g others phase (nobody g) left named c v x → entry_at t c.jobs ≡ Some job → HasLeft job.number x y
    → Leads (HasDropped g others phase (nobody g) (with_at t None (numbers_of g c.jobs)) left v y) (drops g.below t c v)

-- A timer of the choice fires, which was taken out before, where the request of its ticket is aside of the current server: it is started at more servers by moves.
abbrev pub FiringIsMoves : Choosing → Type 0
FiringIsMoves g = (others : Others) (phase : ℕ → Phase) (current i t : ℕ) (left : ℕ → Option ℕ) (named : ℕ → ℕ → Option ℕ) (c : Choice Request g.U g.R) (v : View) (x : State g)
    → IsStill g others phase current left named c v x → entry_at i c.timers ≡ Some t → ((job : Work g) → entry_at t c.jobs ≡ Some job → IsAside g current job)
    → Leads (HasActed g others phase current (numbers_of g c.jobs) left v.more (record v { timers = cancelled i v.timers }) x) (due g.below g.settings i c (record v { timers = cancelled i v.timers }))

-- A list of servers has each once.
pub record IsLinedUp (count : ℕ) (entries : List ListedServer) : Type 0 where
  pub line : AreToStart count (λ s. false) entries
  pub all : (s : ℕ) → s < count → IsToStart s entries
  pub some : entries ≡ [] → ⊥

-- The list that the choice makes for a request, with any server probed or none, has each once.
abbrev pub ListsHaveEach : Choosing → Type 0
ListsHaveEach g = (servers : List (Server g.U)) (probed : Option ℕ) (first : ListedServer)
    → AreToStart (length servers) (λ s. false) (with_probe probed first (by_estimate servers)) × ((s : ℕ) → s < length servers → IsToStart s (with_probe probed first (by_estimate servers)))

-- A request that the machine tries is started at servers, in any order that has each: what is left is what moves leave.
abbrev pub TakingOnIsMoves : Choosing → Type 0
TakingOnIsMoves g = (others : Others) (phase : ℕ → Phase) (t : ℕ) (request : Request) (entries : List ListedServer)
    → (left : ℕ → Option ℕ) (named : ℕ → ℕ → Option ℕ) (c : Choice Request g.U g.R) (v : View) (x y : State g)
    → IsStill g others phase (nobody g) left named c v x → entry_at t c.jobs ≡ None → IsOfOctets request → IsLinedUp (length (g.c).servers) entries → HasTakenOn v.request request x y
    → Leads (HasActed g others phase (nobody g) (with_at t (Some v.request) (numbers_of g c.jobs)) left v.more v y) (takes_on g.below g.settings t entries request c v)

-- ---- what servers hear

-- What a server is told, where no timer of the choice is due, is what moves leave, with what it posted then taken.
abbrev pub TellingIsMoves : Choosing → Type 0
TellingIsMoves g = (others : Others) (phase : ℕ → Phase) (s : ℕ) (a : Server g.U) (what : What) (left : ℕ → Option ℕ) (named : ℕ → ℕ → Option ℕ) (c : Choice Request g.U g.R) (v : View) (x : State g)
    → IsStill g others phase s left named c v x → slice_get c.servers s ≡ Some a → phase s ≡ Untold what → NoneDue (g.Owns a.upstream) (sight v)
    → ((i t due : ℕ) → entry_at i c.timers ≡ Some t → due_of i v.timers.set ≡ Some due → v.now < due) → v.more ≡ false
    → Leads (HasTold g others phase s (MayLeave what) (numbers_of g c.jobs) v x) (hears_one g.below g.settings s (told what) c v)

-- So is what it does with a frame.
abbrev pub TakingIsMoves : Choosing → Type 0
TakingIsMoves g = (others : Others) (phase : ℕ → Phase) (s : ℕ) (a : Server g.U) (p n : ℕ) (left : ℕ → Option ℕ) (named : ℕ → ℕ → Option ℕ) (c : Choice Request g.U g.R) (v : View) (x : State g)
    → IsStill g others phase s left named c v x → slice_get c.servers s ≡ Some a → phase s ≡ Told p (suc n) → v.more ≡ false
    → Leads (HasTold g others phase s (λ q frames. (q ≡ p) × (frames ≤ n)) (numbers_of g c.jobs) v x) (hears_one g.below g.settings s (more_at p) c v)

-- And what it does as a timer of its own fires, which was taken out before.
abbrev pub WakingIsMoves : Choosing → Type 0
WakingIsMoves g = (others : Others) (phase : ℕ → Phase) (s : ℕ) (a : Server g.U) (what : What) (i due : ℕ)
    → (left : ℕ → Option ℕ) (named : ℕ → ℕ → Option ℕ) (c : Choice Request g.U g.R) (v : View) (x : State g)
    → IsStill g others phase s left named c v x → slice_get c.servers s ≡ Some a → phase s ≡ Untold what → g.Owns a.upstream i → due_of i v.timers.set ≡ Some due → due ≤ v.now
    → Leads (HasHeard g others phase s (numbers_of g c.jobs) (record v { timers = cancelled i v.timers }) x)
    (hears_one g.below g.settings s (due_timer i) c (record v { timers = cancelled i v.timers }))

-- What server s hears leaves all as it is.
abbrev pub IsNothing : (g : Choosing) (s : ℕ) → Heard → Choice Request g.U g.R → View → Type 0
IsNothing g s h c v = hears_one g.below g.settings s h c v ≡ Some (c, v)

-- A server that takes no notice of an event: it leaves all as it is, and is tied behind it.
pub record PassesBy (g : Choosing) (phase : ℕ → Phase) (s : ℕ) (what : What) (c : Choice Request g.U g.R) (v : View) (x : State g) : Type 0 where
  pub nothing : IsNothing g s (told what) c v
  pub tied : AreTied g (with_up s (Passed what) phase) c.servers v x

-- Such is one that has not the event's place. Where that is below the next free place, all stands as before.
pub record IgnoringIsNothing (g : Choosing) : Type 0 where
  pub events : (phase : ℕ → Phase) (s : ℕ) (a : Server g.U) (what : What) (p : ℕ) (c : Choice Request g.U g.R) (v : View) (x : State g)
      → AreTied g phase c.servers v x → slice_get c.servers s ≡ Some a → a.posted ≡ []
      → phase s ≡ Untold what → place_in what ≡ Some p → g.has (x.ups s) p ≡ false → NoneDue (g.Owns a.upstream) (sight v) → PassesBy g phase s what c v x
  pub frames : (phase : ℕ → Phase) (s : ℕ) (a : Server g.U) (what : What) (p : ℕ) (c : Choice Request g.U g.R) (v : View) (x : State g)
      → AreTied g phase c.servers v x → slice_get c.servers s ≡ Some a → a.posted ≡ []
      → phase s ≡ Passed what → place_in what ≡ Some p → IsNothing g s (more_at p) c v
  -- a timer of others, which is set no more, or was taken out before
  pub timers : (phase : ℕ → Phase) (s : ℕ) (a : Server g.U) (i : ℕ) (c : Choice Request g.U g.R) (v : View) (x : State g)
      → AreTied g phase c.servers v x → slice_get c.servers s ≡ Some a → a.posted ≡ []
      → (g.Owns a.upstream i → ⊥) → IsNothing g s (due_timer i) c v × IsNothing g s (due_timer i) c (record v { timers = cancelled i v.timers })
  pub stands : (others : Others) (phase : ℕ → Phase) (s current p : ℕ) (what : What) (left : ℕ → Option ℕ) (named : ℕ → ℕ → Option ℕ) (c : Choice Request g.U g.R) (v : View) (x : State g)
      → IsStill g others phase current left named c v x → AreTied g (with_up s (Passed what) phase) c.servers v x → place_in what ≡ Some p → p < v.place
      → IsStill g others (with_up s (Passed what) phase) current left named c v x

-- All of these.
pub record CallsAreMoves (g : Choosing) : Type 0 where
  pub turning_away : TurningAway g
  pub turning_to : TurningTo g
  pub telling : TellingIsMoves g
  pub taking : TakingIsMoves g
  pub waking : WakingIsMoves g
  pub ignoring : IgnoringIsNothing g
  pub results : ResultsAreMoves g
  pub runs : RunsAreMoves g
  pub cancelling : CancellingIsMoves g
  pub firing : FiringIsMoves g
  pub taking_on : TakingOnIsMoves g
  pub lists : ListsHaveEach g
