-- Moves of a server by streams, one after another.
use Rattle.std.specs.Prelude.{◌≡◌, ◌≢◌, ℕ, List, [], ◌∷◌, Option, Some, Err}
use Rattle.client_request.specs.declared.board.Posted.{Posted}
use Rattle.client_request.specs.declared.error.Error.{Error}
use Rattle.client_request.specs.declared.error.Error.TheVariants.{WrongReplyForQuery}
use Rattle.proof_right.specs.machine.Part.{Act}
use Rattle.proof_right.specs.machine.Streams as multi
use Rattle.proof_right.specs.machine.Streams.{Phase, Broken, Asker, Multi, Moves, moved}
use Rattle.proof_right.specs.machine.Served.{place_after, outs_of, posts_of}
use Rattle.proof_parts.specs.Chains.{still, then_act}
use Rattle.proof_parts.specs.Seats.{IsAway}
use Rattle.right_trace.specs.Trace.{Conf}

-- what a small move makes
abbrev pub made_by : (place : ℕ) → multi.Act → Multi → Act Multi
made_by place x m = record { state = m; place = place_after x place; outs = outs_of x; posts = posts_of x }

-- of server s, at moment n
pub data Runs (c : Conf) (s n : ℕ) : (place : ℕ) → Multi → Act Multi → Type 0 where
  Rests : (place : ℕ) (m : Multi) → Runs c s n place m (still place m)
  Runs_on : (place : ℕ) (m : Multi) (x : multi.Act) (k : Multi) (e : Act Multi) → Moves c s n place m x k → Runs c s n (place_after x place) k e → Runs c s n place m (then_act (made_by place x k) e)

-- What moves at place p leave beside it: who is not there stays as he is, and what was asked and when stays so.
pub record IsBeside (p : ℕ) (m n : Multi) : Type 0 where
  pub aside : (k : ℕ) → IsAway p (m.asks k) → n.asks k ≡ m.asks k
  pub going : (k : ℕ) (a : Asker) → m.asks k ≡ Some a → (phase : Phase) × (n.asks k ≡ Some (moved a phase))
  pub conns : (q : ℕ) → (p ≡ q → ⊥) → n.conns q ≡ m.conns q
  pub opening : n.opening ≡ m.opening
  pub calm : n.calm ≡ m.calm

-- Each of these is an error, not the one after which a connection goes on, for a request that is to back off.
abbrev pub AreFailing : (names : ℕ → Option ℕ) → (ℕ → Option Asker) → List Posted → Type 0
AreFailing names asks [] = Unit {0}
AreFailing names asks (x ∷ xs) = ((e : Error) × (x.part ≡ Err e) × (e ≢ WrongReplyForQuery)) × ((k : ℕ) × (a : Asker) × (names x.ticket ≡ Some k) × (asks k ≡ Some a) × (a.phase ≡ Broken)) × AreFailing names asks xs
