-- The tables of a fallback beside those who wait below: each request waits at the datagrams or at the streams, under a ticket of theirs.
use Rattle.std.specs.Prelude.{◌≡◌, true, is_some, ◌<◌, ◌≤◌, ℕ, List, ◌++◌, Option, Some, None, option_and_then}
use Rattle.client_request.specs.Numbered.{entry_at}
use Rattle.client_request.specs.Request.{Request}
use Rattle.client_request.specs.declared.board.Posted.{Posted}
use Rattle.client_dgram.specs.Plain as dgram
use Rattle.client_stream.specs.Plain as stream
use Rattle.client_multi.specs.Fallback.{Tables, lower_of, admits, without, gives_all}
use Rattle.client_multi.specs.declared.dgram_stream.job.Job.{Job}
use Rattle.client_multi.specs.declared.dgram_stream.job.Job.TheVariants.{Dgram, Stream}
use Rattle.proof_right.specs.machine.Part.{Post}
use Rattle.right_trace.specs.Updates.{with_at}
use Rattle.proof_right.specs.machine.Dgrams.{Tryer, Dgrams}
use Rattle.proof_parts.specs.Chains.{Gives}
use Rattle.proof_parts.specs.Lines.{Sorted}
use Rattle.proof_dgram.specs.Staying.{AsksTheSame}

module _ {Q : Type 0} (ticket_of : Q → ℕ) where
  -- Where a request waits. `by_dgram` and `by_stream` have the number of the request of each ticket below.
  pub data WaitsBelow (d : Dgrams) (by_dgram by_stream : ℕ → Option ℕ) : Job Request dgram.Asked Q → Type 0 where
    AtDgrams : (lower k : ℕ) (r : Request) (x : dgram.Asked) (a : Tryer) → by_dgram lower ≡ Some k → x.ticket ≡ lower → d.held k ≡ Some a → a.request ≡ r → WaitsBelow d by_dgram by_stream (Dgram lower k r x)
    AtStreams : (lower k : ℕ) (x : Q) → by_stream lower ≡ Some k → ticket_of x ≡ lower → WaitsBelow d by_dgram by_stream (Stream lower x)

  -- The tables have all that wait below, and nobody else; their keys are tickets that were drawn.
  pub record AreWaiting (s : Tables Request dgram.Asked Q) (d : Dgrams) (by_dgram by_stream : ℕ → Option ℕ) (ticket : ℕ) : Type 0 where
    pub waits : (t : ℕ) (job : Job Request dgram.Asked Q) → entry_at t s.jobs ≡ Some job → WaitsBelow d by_dgram by_stream job
    pub below : (t : ℕ) (job : Job Request dgram.Asked Q) → entry_at t s.jobs ≡ Some job → entry_at (lower_of job) s.tickets ≡ Some t
    pub tickets : (i t : ℕ) → entry_at i s.tickets ≡ Some t → (job : Job Request dgram.Asked Q) × (entry_at t s.jobs ≡ Some job) × (lower_of job ≡ i)
    pub dgrams : (i k : ℕ) → by_dgram i ≡ Some k → (t : ℕ) × (r : Request) × (x : dgram.Asked) × (entry_at t s.jobs ≡ Some (Dgram i k r x))
    pub streams : (i k : ℕ) → by_stream i ≡ Some k → (t : ℕ) × (x : Q) × (entry_at t s.jobs ≡ Some (Stream i x))
    pub jobs_order : Sorted 0 ticket s.jobs
    pub tickets_order : Sorted 0 ticket s.tickets

-- the number of the request of each ticket
abbrev pub number_in : {Q : Type 0} → (by_stream : ℕ → Option ℕ) → Job Request dgram.Asked Q → Option ℕ
number_in by_stream (Dgram lower k r x) = Some k
number_in by_stream (Stream lower x) = by_stream lower

abbrev pub numbers_of : {Q : Type 0} → Tables Request dgram.Asked Q → (by_stream : ℕ → Option ℕ) → ℕ → Option ℕ
numbers_of s by_stream t = option_and_then (number_in by_stream) (entry_at t s.jobs)

module _ {Q : Type 0} (ticket_of : Q → ℕ) where
  -- What the streams posted, as these results, is on the board as the same; who had one waits no more. `left` has who still waits at the streams.
  pub record AreGiven (s : Tables Request dgram.Asked Q) (d : Dgrams) (by_dgram by_stream left : ℕ → Option ℕ) (ticket : ℕ) (board : List Posted) (xs : List Post) (t : Tables Request dgram.Asked Q) (after : List Posted) : Type 0 where
    pub posted : List Posted
    pub put : after ≡ board ++ posted
    pub gives : Gives (numbers_of s by_stream) posted xs (numbers_of t left)
    pub waiting : AreWaiting ticket_of t d by_dgram left ticket

-- the ticket of what stands for a result of the streams
abbrev pub ticket_at : stream.Asked → ℕ
ticket_at r = r.ticket

-- The results of the streams are handed on in their order.
abbrev pub StreamsGive : Type 0
StreamsGive = (s : Tables Request dgram.Asked stream.Asked) (d : Dgrams) (by_dgram by_stream left : ℕ → Option ℕ) (ticket : ℕ) (posts board : List Posted) (xs : List Post) → AreWaiting ticket_at s d by_dgram by_stream ticket → Gives by_stream posts xs left
    → AreGiven ticket_at s d by_dgram by_stream left ticket board xs (gives_all posts s board).0 (gives_all posts s board).1

-- the tables once a request waits under a ticket of their own
abbrev pub Comes : (t : ℕ) → Job Request dgram.Asked stream.Asked → Tables Request dgram.Asked stream.Asked → (ticket later : ℕ) → Type 0
Comes t job s ticket later = (entry_at t s.jobs ≡ None) × (entry_at (lower_of job) s.tickets ≡ None) × (t < later) × (lower_of job < later) × (ticket ≤ later)

-- How the tables change with those who wait below.
pub record TablesChange : Type 0 where
  -- the datagrams move on, and ask the same for those who still wait there
  pub moves : (s : Tables Request dgram.Asked stream.Asked) (d e : Dgrams) (by_dgram by_stream : ℕ → Option ℕ) (ticket : ℕ) → AreWaiting ticket_at s d by_dgram by_stream ticket → AsksTheSame d e → ((i k : ℕ) → by_dgram i ≡ Some k → is_some (e.held k) ≡ true) → AreWaiting ticket_at s e by_dgram by_stream ticket
  -- a request waits at the datagrams no more
  pub less : (s : Tables Request dgram.Asked stream.Asked) (d : Dgrams) (by_dgram by_stream : ℕ → Option ℕ) (ticket t lower k : ℕ) (r : Request) (x : dgram.Asked) → AreWaiting ticket_at s d by_dgram by_stream ticket → entry_at t s.jobs ≡ Some (Dgram lower k r x)
      → AreWaiting ticket_at (without t s) d (with_at lower None by_dgram) by_stream ticket × ((u : ℕ) → numbers_of (without t s) by_stream u ≡ with_at t None (numbers_of s by_stream) u)
  -- one waits at the datagrams, or at the streams
  pub by_dgram : (s : Tables Request dgram.Asked stream.Asked) (d : Dgrams) (by_dgram by_stream : ℕ → Option ℕ) (ticket later t lower k : ℕ) (r : Request) (x : dgram.Asked) (a : Tryer) → AreWaiting ticket_at s d by_dgram by_stream ticket → Comes t (Dgram lower k r x) s ticket later → by_dgram lower ≡ None → by_stream lower ≡ None → x.ticket ≡ lower → d.held k ≡ Some a → a.request ≡ r
      → AreWaiting ticket_at (admits t (Dgram lower k r x) s) d (with_at lower (Some k) by_dgram) by_stream later × ((u : ℕ) → numbers_of (admits t (Dgram lower k r x) s) by_stream u ≡ with_at t (Some k) (numbers_of s by_stream) u)
  pub by_stream : (s : Tables Request dgram.Asked stream.Asked) (d : Dgrams) (by_dgram by_stream : ℕ → Option ℕ) (ticket later t lower k : ℕ) (x : stream.Asked) → AreWaiting ticket_at s d by_dgram by_stream ticket → Comes t (Stream lower x) s ticket later → by_dgram lower ≡ None → by_stream lower ≡ None → ticket_at x ≡ lower
      → AreWaiting ticket_at (admits t (Stream lower x) s) d by_dgram (with_at lower (Some k) by_stream) later × ((u : ℕ) → numbers_of (admits t (Stream lower x) s) (with_at lower (Some k) by_stream) u ≡ with_at t (Some k) (numbers_of s by_stream) u)
