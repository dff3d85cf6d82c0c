-- What stays through moves: what was asked, and which place opens.
use Rattle.std.specs.Prelude.{◌≡◌, ℕ, ◌≤◌, ◌⊎◌, Some}
use Rattle.client_request.specs.declared.event.What.{What}
use Rattle.right_trace.specs.Trace.{Conf}
use Rattle.proof_right.specs.machine.Part.{Act}
use Rattle.proof_right.specs.machine.Streams as multi
use Rattle.proof_right.specs.machine.Dgrams.{Tryer, Dgrams, Meets}
use Rattle.proof_right.specs.machine.Served.{Served, served}
use Rattle.proof_parts.specs.Chains.{Chain}
use Rattle.proof_dgram.specs.Calls.{LetsGo}
use Rattle.proof_dgram.specs.Steps.{AtOnce, Steps}

-- who is held asks what he asked before
abbrev pub AsksTheSame : Dgrams → Dgrams → Type 0
AsksTheSame d e = (k : ℕ) (a : Tryer) → e.held k ≡ Some a → (b : Tryer) × (d.held k ≡ Some b) × (b.request ≡ a.request)

-- A request is held as it was handed in, whatever is done with it.
pub record RequestsStay (c : Conf) : Type 0 where
  pub steps : (s n place : ℕ) (d : Dgrams) (e : Act Dgrams) → Steps c s n place d e → AsksTheSame d e.state
  pub meets : (n place : ℕ) (d e : Dgrams) (w : What) (x : multi.Act) → Meets c n d w x e → AsksTheSame d e
  pub at_once : (place : ℕ) (x : multi.Act) (d : Dgrams) (e : Act Dgrams) → AtOnce place x d e → AsksTheSame d e.state
  pub lets_go : (k place : ℕ) (d : Dgrams) (e : Act Dgrams) → LetsGo k place d e → AsksTheSame d e.state

-- A stream place that opens opened before, or is a new one, and numbers go on.
abbrev pub OpeningsAreNew : Type 0
OpeningsAreNew = (c : Conf) (s place : ℕ) (u : Served) (e : Act Served) → Chain (served c) s place u e → (place ≤ e.place) × ((p : ℕ) → e.state.server.by_stream.opening ≡ Some p → (u.server.by_stream.opening ≡ Some p) ⊎ (place ≤ p))
