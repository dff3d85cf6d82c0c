-- The requests of a choice beside those of the machine: who was started, who is still to be, and under which ticket each waits.
use Rattle.std.specs.Prelude.{◌≡◌, ℕ, ◌<◌, ◌≤◌, ◌⊎◌, ◌||◌, ◌==◌, Bool, true, false, List, [], ◌∷◌, ◌++◌, length, Option, Some, None, option_map, slice_get}
use Rattle.client_request.specs.Carries.{IsOfOctets}
use Rattle.client_request.specs.Composed.{composed}
use Rattle.client_request.specs.Numbered.{entry_at}
use Rattle.client_request.specs.Request.{Request}
use Rattle.client_request.specs.View.{View}
use Rattle.client_choice.specs.Choice.{Choice, ChoiceJob}
use Rattle.client_choice.specs.Servers.{Server, owner}
use Rattle.client_choice.specs.declared.job.ListedServer.{ListedServer}
use Rattle.client_choice.specs.declared.job.Started.{Started}
use Rattle.client_request.specs.declared.event.Out.{Out}
use Rattle.right_trace.specs.Parts.{IsIn}
use Rattle.proof_right.specs.machine.Client.{Waiting, best}
use Rattle.proof_parts.specs.Chains.{part_of}
use Rattle.proof_parts.specs.Leading.{Leads}
use Rattle.proof_parts.specs.Lines.{Sorted}
use Rattle.proof_parts.specs.PartTie.{Phase, Told, IsOpen}
use Rattle.proof_parts.specs.Sights.{due_of}
use Rattle.proof_parts.specs.WholeTie.{Follows}
use Rattle.proof_choice.specs.Choosing.{Choosing}
use Rattle.proof_choice.specs.Servers.{State, AreTied}

-- each is a server that was not tried yet, when its turn comes
abbrev pub AreToStart : (count : ℕ) → (tried : ℕ → Bool) → List ListedServer → Type 0
AreToStart count tried [] = Unit {0}
AreToStart count tried (e ∷ es) = (e.server < count) × (tried e.server ≡ false) × AreToStart count (λ t. (e.server == t) || tried t) es

abbrev pub IsToStart : ℕ → List ListedServer → Type 0
IsToStart s [] = ⊥
IsToStart s (e ∷ es) = (e.server ≡ s) ⊎ IsToStart s es

-- no server was started twice
abbrev pub AreApart : {P : Type 0} → List (Started P) → Type 0
AreApart [] = Unit {0}
AreApart (e ∷ es) = ((f : Started _) → IsIn f es → e.server ≡ f.server → ⊥) × AreApart es

-- Timers of others: which numbers these are, of those that were given, and when each that is set is due.
pub record Others : Type 0 where
  pub are : (timer : ℕ) → Bool
  pub due : (timer : ℕ) → Option ℕ

-- What stands beside a call: the timers of others; and the number of the request of each ticket whose result is still to come from the server whose results are taken.
pub record Beside : Type 0 where
  pub others : Others
  pub left : (ticket : ℕ) → Option ℕ

module _ (g : Choosing) where
  abbrev pub Work : Type 0
  Work = ChoiceJob Request g.R

  abbrev pub Begun : Type 0
  Begun = Started g.R

  -- The request neither starts at a server, nor waits there.
  pub record IsAside (s : ℕ) (job : Work) : Type 0 where
    pub aside : IsToStart s job.left → ⊥
    pub clear : (b : Begun) → IsIn b job.started → (r : g.R) → b.response ≡ Some r → s ≡ b.server → ⊥

  -- so is each whose timer is due
  abbrev pub AreAside : (s : ℕ) → (jobs : ℕ → Option Work) → View → Type 0
  AreAside s jobs v = (t : ℕ) (job : Work) (i due : ℕ) → jobs t ≡ Some job → job.timer ≡ Some i → due_of i v.timers.set ≡ Some due → due ≤ v.now → IsAside s job

  -- The tables as functions: the requests by ticket, the ticket of each timer, at each server the ticket and the number of what waits there, the machine's requests by number, and when each timer is due.
  pub record Desk : Type 0 where
    pub jobs : ℕ → Option Work
    pub timers : ℕ → Option ℕ
    pub waiting : (s lower : ℕ) → Option ℕ
    pub named : (s lower : ℕ) → Option ℕ
    pub held : ℕ → Option Waiting
    pub dues : ℕ → Option ℕ

  -- the result of a server that was started is to come there
  pub record Waits (d : Desk) (t k : ℕ) (e : Begun) (r : g.R) : Type 0 where
    pub within : e.server < length (g.c).servers
    pub fits : g.Fits e.server r
    pub ticket : g.ticket r ≡ e.lower
    pub waiting : d.waiting e.server e.lower ≡ Some t
    pub named : d.named e.server e.lower ≡ Some k

  -- A request waits under ticket t.
  pub record IsKept (d : Desk) (t : ℕ) (job : Work) : Type 0 where
    pub ask : Waiting
    pub is : d.held job.number ≡ Some ask
    pub request : ask.request ≡ job.request
    pub octets : IsOfOctets job.request
    pub left : AreToStart (length (g.c).servers) ask.tried job.left
    pub all : (s : ℕ) → s < length (g.c).servers → (ask.tried s ≡ true) ⊎ IsToStart s job.left
    pub tried : (e : Begun) → IsIn e job.started → ask.tried e.server ≡ true
    pub waits : (e : Begun) → IsIn e job.started → (r : g.R) → e.response ≡ Some r → Waits d t job.number e r
    pub apart : AreApart job.started
    pub deferred : job.deferred ≡ option_map part_of (best ask.kept_back)
    pub timer : (i : ℕ) → job.timer ≡ Some i → (d.timers i ≡ Some t) × ((due : ℕ) × (d.dues i ≡ Some due))
    pub armed : job.left ≡ [] → job.timer ≡ None

  -- a server owes a request its result
  pub record IsOwed (k : ℕ) (started : List Begun) (s under : ℕ) : Type 0 where
    pub entry : Begun
    pub is : IsIn entry started
    pub server : entry.server ≡ s
    pub lower : entry.lower ≡ under
    pub response : g.R
    pub to_come : entry.response ≡ Some response

  pub record IsNamed (d : Desk) (s under k : ℕ) : Type 0 where
    pub ticket : ℕ
    pub job : Work
    pub is : d.jobs ticket ≡ Some job
    pub number : job.number ≡ k
    pub owed : IsOwed k job.started s under

  -- The tables and the machine agree. Request `over` has its result, and is still to be given up by those of `dropping`.
  pub record AreKept (over : ℕ) (dropping : List Begun) (d : Desk) : Type 0 where
    pub kept : (t : ℕ) (job : Work) → d.jobs t ≡ Some job → IsKept d t job
    pub named : (s i k : ℕ) → s < length (g.c).servers → d.named s i ≡ Some k → IsNamed d s i k ⊎ ((over ≡ k) × IsOwed k dropping s i)
    pub held : (k : ℕ) (a : Waiting) → d.held k ≡ Some a → (t : ℕ) × (job : Work) × (d.jobs t ≡ Some job) × (job.number ≡ k)
    pub timers : (i t : ℕ) → d.timers i ≡ Some t → (job : Work) × (d.jobs t ≡ Some job) × (job.timer ≡ Some i)
    pub apart : (t u : ℕ) (job other : Work) → d.jobs t ≡ Some job → d.jobs u ≡ Some other → job.number ≡ other.number → t ≡ u

  abbrev pub desk_of : (jobs : ℕ → Option Work) → (named : (s lower : ℕ) → Option ℕ) → Choice Request g.U g.R → View → State g → Desk
  desk_of jobs named c v x = record {
    jobs = jobs;
    timers = λ i. entry_at i c.timers;
    waiting = λ s i. owner s i c.servers;
    named = named;
    held = x.held;
    dues = λ i. due_of i v.timers.set;
  }

  -- The choice beside the machine, within a call. `jobs` has its requests, with the one in hand; `current` is the server whose results are taken,
  -- and each other may be started at, and told to give up. `beside` has the timers of others, and what is left to come from the current server.
  pub record Stands (beside : Beside) (phase : ℕ → Phase) (current : ℕ) (jobs : ℕ → Option Work) (named : (s lower : ℕ) → Option ℕ)
      (over : ℕ) (dropping : List Begun) (c : Choice Request g.U g.R) (v : View) (x : State g) : Type 0 where
    pub servers : AreTied g phase c.servers v x
    pub quiet : (s : ℕ) (a : Server g.U) → slice_get c.servers s ≡ Some a → (a.posted ≡ []) × ((hi : ℕ) × Sorted 0 hi a.waiting)
    pub is_named : (s : ℕ) (a : Server g.U) → slice_get c.servers s ≡ Some a → (current ≡ s → ⊥) → (i : ℕ) → named s i ≡ g.names a.upstream i
    pub still : (a : Server g.U) → slice_get c.servers current ≡ Some a → (i : ℕ) → g.names a.upstream i ≡ beside.left i
    pub less : (i k : ℕ) → beside.left i ≡ Some k → named current i ≡ Some k
    pub kept : AreKept over dropping (desk_of jobs named c v x)
    pub foreign : (i t s : ℕ) (a : Server g.U) → entry_at i c.timers ≡ Some t → slice_get c.servers s ≡ Some a → g.Owns a.upstream i → ⊥
    pub timers : (hi : ℕ) × Sorted 0 hi c.timers
    -- where the current server was told an event, requests that are due are aside of it
    pub calm : (at frames : ℕ) → phase current ≡ Told at frames → AreAside current jobs v
    pub is_open : (s : ℕ) → s < length (g.c).servers → (current ≡ s → ⊥) → IsOpen (phase s) v.place
    pub drawn : (i : ℕ) → beside.others.are i ≡ true → i < v.timers.next
    pub due : (i moment : ℕ) → beside.others.are i ≡ true → beside.others.due i ≡ Some moment → due_of i v.timers.set ≡ Some moment
    pub own : (i t : ℕ) → beside.others.are i ≡ true → entry_at i c.timers ≡ Some t → ⊥
    pub far : (i s : ℕ) (a : Server g.U) → beside.others.are i ≡ true → slice_get c.servers s ≡ Some a → g.Owns a.upstream i → ⊥

  -- what moves left of the machine, while a call left w of the view v
  pub record Went (v : View) (x : State g) (w : View) (y : State g) : Type 0 where
    pub outs : List Out
    pub leads : Leads g.st composed g.P x outs y
    pub put : w.outs ≡ v.outs ++ outs
    pub goes_on : Follows v w
    pub now : y.now ≡ x.now
    pub asked : y.asked ≡ x.asked
    pub pending : y.pending ≡ x.pending
