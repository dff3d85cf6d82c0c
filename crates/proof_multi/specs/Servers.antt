-- One server by streams: the tables of reconnection beside the requests and connections of the machine.
use Rattle.std.specs.Prelude.{◌≡◌, ℕ, ◌+◌, ◌<◌, ◌≤◌, ◌⊎◌, false, List, [], ◌∷◌, Option, Some, None, option_map, option_and_then}
use Rattle.client_request.specs.Carries.{IsOfOctets}
use Rattle.client_request.specs.Numbered.{entry_at}
use Rattle.client_request.specs.Request.{Request}
use Rattle.client_request.specs.View.{View}
use Rattle.client_request.specs.declared.board.Posted.{Posted}
use Rattle.client_stream.specs.Plain.{Asked}
use Rattle.client_multi.specs.Links.{Link}
use Rattle.client_multi.specs.MultiStream.{Tables}
use Rattle.client_multi.specs.declared.multi_stream.job.Job.{Job}
use Rattle.client_multi.specs.declared.multi_stream.job.Stage.{Stage}
use Rattle.client_multi.specs.declared.multi_stream.job.Stage.TheVariants.{Waiting, Resting, Held}
use Rattle.right_trace.specs.Messages.{Octets}
use Rattle.right_trace.specs.Time.{stream_timeout}
use Rattle.proof_right.specs.machine.Streams.{Phase, Free, Expecting, Lined, Holding, Broken, BackingOff, Asker, Conn, Multi}
use Rattle.proof_parts.specs.Connections.{timer_of, IsPostedTo, dues}
use Rattle.proof_parts.specs.Lines.{Sorted}
use Rattle.proof_parts.specs.Octets.{IsLinkAt}
use Rattle.proof_parts.specs.Seats.{IsAway}
use Rattle.proof_parts.specs.Sights.{Sight, sight, Rising, IsFair}
use Rattle.right_trace.specs.Trace.{Conf}

-- it is one of these
abbrev pub IsListed : ℕ → List ℕ → Type 0
IsListed t [] = ⊥
IsListed t (x ∷ xs) = (x ≡ t) ⊎ IsListed t xs

-- The tables as functions: the requests by ticket, the ticket of each timer and of each ticket at a connection, the connections by place, the place of each of their timers, who waits for the place that opens, and until when none is to be opened.
pub record Desk : Type 0 where
  pub jobs : ℕ → Option (Job Request)
  pub timers : ℕ → Option ℕ
  pub inner : ℕ → Option ℕ
  pub links : ℕ → Option (Link Request)
  pub watches : ℕ → Option ℕ
  pub waiting : List ℕ
  pub opening : Option ℕ
  pub calm : ℕ

-- the tables of requests that one message answers
abbrev pub Server : Type 0
Server = Tables Request (Link Request)

abbrev pub desk_of : Server → Desk
desk_of s = record {
  jobs = λ t. entry_at t s.jobs;
  timers = λ i. entry_at i s.timers;
  inner = λ i. entry_at i s.inner;
  links = λ p. entry_at p s.connections;
  watches = λ i. entry_at i s.watches;
  waiting = s.waiting;
  opening = s.opening;
  calm = s.calm;
}

-- the number of the request of each ticket
abbrev pub numbers : Desk → ℕ → Option ℕ
numbers d t = option_map (λ job. job.number) (d.jobs t)

-- the number of the request that a connection has under a ticket
abbrev pub names_at : Desk → ℕ → Option ℕ
names_at d i = option_and_then (numbers d) (d.inner i)

-- What is under way within a call: the requests that are to be handed on or to back off, each with its phase, and what a connection posted that is not collected yet.
pub record UnderWay : Type 0 where
  pub todo : List (ℕ × Phase)
  pub failed : List Posted

abbrev pub nothing_under_way : UnderWay
nothing_under_way = record { todo = []; failed = [] }

abbrev pub IsLoose : ℕ → Phase → List (ℕ × Phase) → Type 0
IsLoose t phase [] = ⊥
IsLoose t phase (x ∷ xs) = ((x.0 ≡ t) × (x.1 ≡ phase)) ⊎ IsLoose t phase xs

-- what stands for a request's result at a connection
abbrev pub under : (ticket : ℕ) → Asked
under ticket = record { ticket = ticket; given = false }

-- at place p
abbrev pub IsThere : (p : ℕ) → Phase → Type 0
IsThere p (Lined q) = q ≡ p
IsThere p (Holding q id) = q ≡ p
IsThere p _ = ⊥

-- Where the request of ticket t is.
pub data StageFits (y : UnderWay) (d : Desk) (due : ℕ → Option ℕ) (t : ℕ) (at : Stage) (phase : Phase) : Type 0 where
  AtWaiting : at ≡ Waiting → phase ≡ Expecting → IsListed t d.waiting → StageFits y d due t at phase
  AtResting : (timer until : ℕ) → at ≡ Resting timer → phase ≡ BackingOff until → d.timers timer ≡ Some t → due timer ≡ Some until → StageFits y d due t at phase
  AtHeld : (p i : ℕ) → at ≡ Held p (under i) → IsThere p phase → d.inner i ≡ Some t → StageFits y d due t at phase
  HasFailed : (p i : ℕ) → at ≡ Held p (under i) → phase ≡ Broken → d.inner i ≡ Some t → IsPostedTo i y.failed → StageFits y d due t at phase
  IsToHand : IsLoose t phase y.todo → at ≡ Waiting → (phase ≡ Free) ⊎ (phase ≡ Broken) → StageFits y d due t at phase

-- request and timer of ticket t
pub record JobFits (c : Conf) (y : UnderWay) (d : Desk) (m : Multi) (due : ℕ → Option ℕ) (t : ℕ) (job : Job Request) : Type 0 where
  pub ask : Asker
  pub is : m.asks job.number ≡ Some ask
  pub request : job.request ≡ ask.request
  pub octets : IsOfOctets ask.request
  pub end : d.timers job.end ≡ Some t
  pub over : due job.end ≡ Some (ask.since + stream_timeout c)
  pub stage : StageFits y d due t job.stage ask.phase

-- A connection is there for both, or for neither, and then nobody is there. `frames` has what still is to be taken at each place.
pub data LinkFits (c : Conf) (d : Desk) (m : Multi) (frames : ℕ → List Octets) (due : ℕ → Option ℕ) (ticket p : ℕ) : Type 0 where
  IsNone : d.links p ≡ None → m.conns p ≡ None → ((k : ℕ) → IsAway p (m.asks k)) → LinkFits c d m frames due ticket p
  IsSome : (l : Link Request) (x : Conn) → d.links p ≡ Some l → IsLinkAt c p (names_at d) l m x (frames p) due ticket → LinkFits c d m frames due ticket p

-- a request that is to back off
abbrev pub IsBroken : (k : ℕ) → Multi → Type 0
IsBroken k m = (a : Asker) × (m.asks k ≡ Some a) × (a.phase ≡ Broken)

-- The tables of requests and the machine agree, but for what is under way.
pub record AreTables (c : Conf) (y : UnderWay) (d : Desk) (m : Multi) (due : ℕ → Option ℕ) : Type 0 where
  pub jobs : (t : ℕ) (job : Job Request) → d.jobs t ≡ Some job → JobFits c y d m due t job
  pub asked : (k : ℕ) (a : Asker) → m.asks k ≡ Some a → (t : ℕ) × (job : Job Request) × (d.jobs t ≡ Some job) × (job.number ≡ k)
  pub apart : (t u : ℕ) (job other : Job Request) → d.jobs t ≡ Some job → d.jobs u ≡ Some other → job.number ≡ other.number → t ≡ u
  pub timers : (i t : ℕ) → d.timers i ≡ Some t → (job : Job Request) × (d.jobs t ≡ Some job) × ((job.end ≡ i) ⊎ (job.stage ≡ Resting i))
  pub inner : (i t : ℕ) → d.inner i ≡ Some t → (job : Job Request) × (p : ℕ) × (d.jobs t ≡ Some job) × (job.stage ≡ Held p (under i))
  pub waiting : (t : ℕ) → IsListed t d.waiting → (job : Job Request) × (a : Asker) × (d.jobs t ≡ Some job) × (job.stage ≡ Waiting) × (m.asks job.number ≡ Some a) × (a.phase ≡ Expecting)
  pub todo : (t : ℕ) (phase : Phase) → IsLoose t phase y.todo → (job : Job Request) × (a : Asker) × (d.jobs t ≡ Some job) × (job.stage ≡ Waiting) × (m.asks job.number ≡ Some a) × (a.phase ≡ phase) × ((phase ≡ Free) ⊎ (phase ≡ Broken))
  pub failing : (i k : ℕ) → IsPostedTo i y.failed → names_at d i ≡ Some k → IsBroken k m
  pub opening : d.opening ≡ m.opening
  pub calm : d.calm ≤ m.calm

-- So do the connections: the place and the timer of each are known, and its timer is no request's.
pub record IsServer (c : Conf) (y : UnderWay) (d : Desk) (m : Multi) (frames : ℕ → List Octets) (due : ℕ → Option ℕ) (ticket : ℕ) : Type 0 where
  pub tables : AreTables c y d m due
  pub links : (p : ℕ) → LinkFits c d m frames due ticket p
  pub watched : (p : ℕ) (l : Link Request) (i : ℕ) → d.links p ≡ Some l → timer_of l.line.stage ≡ Some i → (d.watches i ≡ Some p) × (d.timers i ≡ None)

-- The keys of each table rise, and are numbers that were drawn.
pub record AreOrderly (s : Server) (x : Sight) : Type 0 where
  pub jobs : Sorted 0 x.ticket s.jobs
  pub timers : Sorted 0 x.timer s.timers
  pub inner : Sorted 0 x.ticket s.inner
  pub waiting : Rising (λ t. t) 0 x.ticket s.waiting
  pub connections : Sorted 0 x.place s.connections
  pub watches : Sorted 0 x.timer s.watches
  pub opening : (p : ℕ) → s.opening ≡ Some p → (p < x.place) × (entry_at p s.connections ≡ None)

-- No connection was told anything yet after which nothing is written there.
abbrev pub NoneHeard : Multi → Type 0
NoneHeard m = (p : ℕ) (x : Conn) → m.conns p ≡ Some x → x.heard ≡ false

-- a timer of a request, or of a connection
abbrev pub Owns : Desk → (timer : ℕ) → Type 0
Owns d i = ((t : ℕ) × (d.timers i ≡ Some t)) ⊎ ((p : ℕ) × (l : Link Request) × (d.links p ≡ Some l) × (timer_of l.line.stage ≡ Some i))

-- all this of the tables and of a view
pub record Stands (c : Conf) (y : UnderWay) (d : Desk) (s : Server) (m : Multi) (frames : ℕ → List Octets) (v : View) : Type 0 where
  pub server : IsServer c y d m frames (dues v) v.ticket
  pub order : AreOrderly s (sight v)
  pub fair : IsFair v
