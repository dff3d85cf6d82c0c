-- What is owed to a request that is held is owed where it is: a fact beside `Fits`.
use Rattle.std.proofs.Common.{◌≡◌, ℕ, ◌<◌, true, false, Some}
use Rattle.client_request.specs.Request.{Request}
use Rattle.client_request.specs.declared.event.What.{What}
use Rattle.client_request.specs.declared.event.Via.{Via}
use Rattle.client_request.specs.declared.event.Via.TheVariants.{Stream}
use Rattle.right_trace.specs.Trace.{History, Conf}
use Rattle.right_trace.specs.Time.{now, recv_size}
use Rattle.right_trace.specs.Frames.{came, received}
use Rattle.right_trace.specs.Exchanges.{has_answer}
use Rattle.proof_right.specs.machine.Streams.{Phase, Free, Expecting, Lined, Holding, Broken, BackingOff, Asker}
use Rattle.proof_right.specs.machine.Dgrams.{Stage, Sent, Tryer}
use Rattle.proof_right.specs.machine.Server.{Server}
use Rattle.right_trace.specs.Requests.{handed}
use Rattle.right_trace.specs.Owed.{IsOwed}

-- by datagram: at the place where it was sent, and the event is no answer
abbrev pub StageOwed : (c : Conf) → (w : What) (past : History) → Request → (p : ℕ) → Stage → Type 0
StageOwed c w past r p (Sent q id t) = (p ≡ q) × (has_answer r id (received (recv_size c) (came q w past)) ≡ false)
StageOwed c w past r p _ = ⊥

-- by stream: nothing to one that is on its way to a connection; at the connection where it holds an id; who was broken off in this row backs off beyond it
abbrev pub PhaseOwed : (n : ℕ) → Via → (p : ℕ) → Phase → Type 0
PhaseOwed n v p (Holding q id) = (v ≡ Stream) × (p ≡ q)
PhaseOwed n v p Broken = v ≡ Stream
PhaseOwed n v p (BackingOff until) = (v ≡ Stream) × (n < until)
PhaseOwed n v p _ = ⊥

pub record OwedFits (c : Conf) (s : ℕ) (past : History) (w : What) (v : Server) (h : History) : Type 0 where
  pub begun : (k : ℕ) → IsOwed c s k past w h → handed k s h ≡ true
  pub by_dgram : (k : ℕ) (a : Tryer) → v.by_dgram.held k ≡ Some a → (o : IsOwed c s k past w h) → StageOwed c w past a.request o.place a.stage
  pub by_stream : (k : ℕ) (a : Asker) → v.by_stream.asks k ≡ Some a → (o : IsOwed c s k past w h) → PhaseOwed (now h) o.via o.place a.phase

pub owed_stream : (n : ℕ) (v : Via) (p : ℕ) (ph : Phase) → PhaseOwed n v p ph → v ≡ Stream
owed_stream n v p (Holding q id) o = o.0
owed_stream n v p Broken o = o
owed_stream n v p (BackingOff until) o = o.0
owed_stream n v p Free o = absurd o
owed_stream n v p Expecting o = absurd o
owed_stream n v p (Lined q) o = absurd o
