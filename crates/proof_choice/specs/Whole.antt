-- A choice among tied servers as all that a client has below it.
use Rattle.std.specs.Prelude.{◌≡◌, ℕ, zero, suc, ◌<◌, ◌≤◌, ◌⊎◌, List, [], ◌∷◌, length, Option, Some, option_map, slice_get, Err}
use Rattle.client_request.specs.Numbered.{entry_at}
use Rattle.client_request.specs.Request.{Request}
use Rattle.client_request.specs.View.{View, answers, draws_ticket}
use Rattle.client_request.specs.declared.error.Error.TheVariants.{NoTransportAvailable}
use Rattle.client_request.specs.declared.event.What.{What}
use Rattle.client_choice.specs.Choice.{Choice}
use Rattle.client_choice.specs.Redundant.{Redundant, started, transport}
use Rattle.client_choice.specs.Servers.{Server, added}
use Rattle.proof_parts.specs.Lines.{Sorted}
use Rattle.proof_parts.specs.PartTie.{Phase, Untold, Told, Passed, place_in}
use Rattle.proof_parts.specs.Sights.{Sight, sight, due_of}
use Rattle.proof_parts.specs.WholeTie.{IsWholeTie}
use Rattle.proof_choice.specs.Awaiting.{Awaits}
use Rattle.proof_choice.specs.Choosing.{Choosing}
use Rattle.proof_choice.specs.Doing.{numbers_of}
use Rattle.proof_choice.specs.Requests.{Work, AreKept, AreAside, desk_of}
use Rattle.proof_choice.specs.Servers.{State, AreTied}

-- A view looks so, as far as it matters: these timers are due then, and numbers are as high at least.
pub record IsSeen (Own : (timer : ℕ) → Type 0) (v : View) (x : Sight) : Type 0 where
  pub now : x.now ≡ v.now
  pub dues : (i : ℕ) → Own i → x.dues i ≡ due_of i v.timers.set
  pub timer : v.timers.next ≤ x.timer
  pub ticket : v.ticket ≤ x.ticket
  pub place : x.place ≡ v.place

module _ (g : Choosing) where
  abbrev pub Whole : Type 0
  Whole = Redundant Request g.U g.R

  -- so many servers as they begin, from one on
  abbrev pub servers_from : (s count : ℕ) → List (Server g.U)
  servers_from s zero = []
  servers_from s (suc count) = added (g.first s) ∷ servers_from (suc s) count

  -- the choice as it begins, with each server
  abbrev pub with_all : Whole
  with_all = record (started g.settings) { choice = record { servers = servers_from 0 (length (g.c).servers); jobs = []; timers = [] } }

  -- the number of the request of each ticket
  abbrev pub names : Whole → (ticket : ℕ) → Option ℕ
  names r t = numbers_of g r.choice.jobs t

  -- A timer is the choice's, or one of its servers'.
  pub data Owns (r : Whole) (i : ℕ) : Type 0 where
    IsOwn : (t : ℕ) → entry_at i r.choice.timers ≡ Some t → Owns r i
    IsServers : (s : ℕ) (a : Server g.U) → slice_get r.choice.servers s ≡ Some a → g.Owns a.upstream i → Owns r i

  -- The choice beside the machine between two calls, whatever the phase of each server is: they agree as within a call, tickets are below the next, and each request that waits is awaited.
  pub record Agrees (phase : ℕ → Phase) (named : (s lower : ℕ) → Option ℕ) (r : Whole) (v : View) (x : State g) : Type 0 where
    pub settings : r.settings ≡ g.settings
    pub servers : AreTied g phase r.choice.servers v x
    pub quiet : (s : ℕ) (a : Server g.U) → slice_get r.choice.servers s ≡ Some a → (a.posted ≡ []) × ((hi : ℕ) × Sorted 0 hi a.waiting)
    pub is_named : (s : ℕ) (a : Server g.U) → slice_get r.choice.servers s ≡ Some a → (i : ℕ) → named s i ≡ g.names a.upstream i
    pub kept : AreKept g 0 [] (desk_of g (λ j. entry_at j r.choice.jobs) named r.choice v x)
    pub foreign : (i t s : ℕ) (a : Server g.U) → entry_at i r.choice.timers ≡ Some t → slice_get r.choice.servers s ≡ Some a → g.Owns a.upstream i → ⊥
    pub timers : (hi : ℕ) × Sorted 0 hi r.choice.timers
    pub sorted : (hi : ℕ) × Sorted 0 hi r.choice.jobs
    pub drawn : (t : ℕ) (job : Work g) → entry_at t r.choice.jobs ≡ Some job → t < v.ticket
    pub awaited : Awaits (length (g.c).servers) r.choice
    pub board : x.board ≡ []

  -- where a timer of the choice is due, its request neither starts at server s, nor waits there
  abbrev pub IsCalm : (s : ℕ) → Choice Request g.U g.R → View → Type 0
  IsCalm s c v = AreAside g s (λ t. entry_at t c.jobs) v

  -- One server took the event, whose place is below the next, and the others passed it. Frames that are left are at that place.
  pub record OneTook (at left : ℕ) (phase : ℕ → Phase) (c : Choice Request g.U g.R) (v : View) : Type 0 where
    pub server : ℕ
    pub within : server < length (g.c).servers
    pub told : phase server ≡ Told at left
    pub what : What
    pub passed : (s : ℕ) → s < length (g.c).servers → (server ≡ s → ⊥) → phase s ≡ Passed what
    pub place : ℕ
    pub in_place : place_in what ≡ Some place
    pub frames : (left ≡ 0) ⊎ (at ≡ place)
    pub below : place < v.place
    pub calm : IsCalm server c v

  -- All servers passed it, and no timer of the choice is due.
  pub record NoneTook (phase : ℕ → Phase) (c : Choice Request g.U g.R) (v : View) : Type 0 where
    pub what : What
    pub passed : (s : ℕ) → s < length (g.c).servers → phase s ≡ Passed what
    pub early : (i t due : ℕ) → entry_at i c.timers ≡ Some t → due_of i v.timers.set ≡ Some due → v.now < due

  -- Nothing happened yet.
  pub record IsUnused (phase : ℕ → Phase) (c : Choice Request g.U g.R) : Type 0 where
    pub begun : (s : ℕ) → s < length (g.c).servers → phase s ≡ Told 0 0
    pub jobs : c.jobs ≡ []
    pub timers : c.timers ≡ []

  -- what a phase of the whole says of those of the servers
  abbrev pub IsAt : Phase → (phase : ℕ → Phase) → Choice Request g.U g.R → View → Type 0
  IsAt (Untold w) phase c v = (s : ℕ) → s < length (g.c).servers → phase s ≡ Untold w
  IsAt (Told at left) phase c v = OneTook at left phase c v ⊎ ((left ≡ 0) × (NoneTook phase c v ⊎ IsUnused phase c))
  IsAt (Passed w) phase c v = ⊥

  -- The tie of the whole: it agrees with the machine at a view that looks so.
  pub record Tied (phase : Phase) (r : Whole) (x : Sight) (a : State g) : Type 0 where
    pub view : View
    pub phases : ℕ → Phase
    pub named : (s lower : ℕ) → Option ℕ
    pub seen : IsSeen (Owns r) view x
    pub agrees : Agrees phases named r view a
    pub is_at : IsAt phase phases r.choice view

-- The choice is tied to the whole of a client.
abbrev pub IsWhole : Choosing → Type 0
IsWhole g = IsWholeTie g.st g.P (transport g.below) (λ asked. asked.ticket) (with_all g) (Tied g) (names g) (Owns g)

-- Each is, whatever its servers are.
abbrev pub ChoicesAreWhole : Type 1
ChoicesAreWhole = (g : Choosing) → IsWhole g

-- Where there are no servers, a request has that error as it is handed in, and nothing else changes.
abbrev pub ChoicesWithoutServers : Choosing → Type 0
ChoicesWithoutServers g = length (g.c).servers ≡ 0 → (phase : Phase) (request : Request) (r : Whole g) (v : View) (x : State g) → Tied g phase r (sight v) x
    → (transport g.below).send request r v ≡ option_map (λ w. (r, answers v.ticket (Err NoTransportAvailable) w)) (draws_ticket v)
