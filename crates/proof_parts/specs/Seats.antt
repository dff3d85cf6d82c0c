-- Who is where at one connection: who is queued there and who holds an id, beside the phases of the machine.
use Rattle.std.specs.Prelude.{◌≡◌, ◌≢◌, ℕ, Option, Some, None}
use Rattle.client_request.specs.Carries.{IsOfOctets}
use Rattle.client_request.specs.Request.{Request, is_answered}
use Rattle.client_stream.specs.declared.request.AnyRequest.TheVariants.{Single}
use Rattle.client_stream.specs.declared.request.Holder.{Holder}
use Rattle.client_stream.specs.declared.request.Holder.TheVariants.{Waits, GivenUp}
use Rattle.client_stream.specs.declared.request.QueuedRequest.{QueuedRequest}
use Rattle.right_trace.specs.Messages.{Octets, answers}
use Rattle.right_trace.specs.Writes.{Written}
use Rattle.proof_right.specs.machine.Streams.{Lined, Holding, Asker}

-- The tables of a connection at p as functions: who holds each id, the id and the queued request of each ticket. `asks` and `written` are the machine's: the requests by number, and what was written under each id.
pub record Seats : Type 0 where
  pub held : ℕ → Option (Holder Request Request)
  pub ids : ℕ → Option ℕ
  pub queue : ℕ → Option (QueuedRequest Request Request)
  pub asks : ℕ → Option Asker
  pub written : ℕ → Option Written

-- a request that is nowhere at place p
pub record IsAway (p : ℕ) (o : Option Asker) : Type 0 where
  pub lined : (a : Asker) → o ≡ Some a → a.phase ≢ Lined p
  pub holding : (a : Asker) (id : ℕ) → o ≡ Some a → a.phase ≢ Holding p id

-- Request k was written as w under an id: what answers w answers what was asked.
pub record IsSent (p id k : ℕ) (w : Request) (asks : ℕ → Option Asker) : Type 0 where
  pub ask : Asker
  pub is : asks k ≡ Some ask
  pub phase : ask.phase ≡ Holding p id
  pub answered : (octets : Octets) → is_answered octets w ≡ answers ask.request id octets

-- request k is queued, as it was asked
pub record IsLined (p k : ℕ) (w : QueuedRequest Request Request) (asks : ℕ → Option Asker) : Type 0 where
  pub number : w.number ≡ k
  pub ask : Asker
  pub is : asks k ≡ Some ask
  pub phase : ask.phase ≡ Lined p
  pub request : w.request ≡ Single ask.request
  pub octets : IsOfOctets ask.request

-- Who holds an id: nobody, a request that waits, or one that was given up, which holds it in the machine no more.
pub data IdFits (p : ℕ) (names : ℕ → Option ℕ) (x : Seats) (id : ℕ) : Type 0 where
  IsFree : x.held id ≡ None → x.written id ≡ None → IdFits p names x id
  IsHeld : (i k : ℕ) (w : Request) (y : Written) → x.held id ≡ Some (Waits i w) → x.written id ≡ Some y → y.request ≡ k → names i ≡ Some k → x.ids i ≡ Some id → IsSent p id k w x.asks → IdFits p names x id
  WasGivenUp : (y : Written) → x.held id ≡ Some GivenUp → x.written id ≡ Some y → ((a : Asker) → x.asks y.request ≡ Some a → a.phase ≢ Holding p id) → IdFits p names x id

-- The tables and the phases agree. `names` has the number of each ticket's request.
pub record AreSeated (p : ℕ) (names : ℕ → Option ℕ) (x : Seats) : Type 0 where
  pub at_id : (id : ℕ) → IdFits p names x id
  pub by_ticket : (i id : ℕ) → x.ids i ≡ Some id → (w : Request) × (x.held id ≡ Some (Waits i w))
  pub queued : (i : ℕ) (w : QueuedRequest Request Request) → x.queue i ≡ Some w → (k : ℕ) × (names i ≡ Some k) × IsLined p k w x.asks
  pub lined : (k : ℕ) (a : Asker) → x.asks k ≡ Some a → a.phase ≡ Lined p → (i : ℕ) × (w : QueuedRequest Request Request) × (names i ≡ Some k) × (x.queue i ≡ Some w)
  pub holding : (k : ℕ) (a : Asker) (id : ℕ) → x.asks k ≡ Some a → a.phase ≡ Holding p id → (i : ℕ) × (w : Request) × (names i ≡ Some k) × (x.held id ≡ Some (Waits i w))
  pub apart : (i j k : ℕ) → names i ≡ Some k → names j ≡ Some k → i ≡ j
