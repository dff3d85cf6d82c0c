-- A choice among servers, each of which is tied to a part of the machine of small moves.
use Rattle.std.specs.Prelude.{◌≡◌, ℕ, ◌<◌, Bool, Option, length}
use Rattle.client_request.specs.Request.{Request}
use Rattle.client_request.specs.View.{View, Heard, Transport, asks}
use Rattle.client_request.specs.declared.event.Out.TheVariants.{Start}
use Rattle.client_request.specs.declared.event.Via.{Via}
use Rattle.client_settings.specs.Settings.{RedundantSettings}
use Rattle.right_trace.specs.Settings.{Settings}
use Rattle.right_trace.specs.Trace.{Conf}
use Rattle.proof_right.specs.machine.Part.{ServerPart}
use Rattle.proof_parts.specs.PartTie.{Phase, IsTie}
use Rattle.proof_parts.specs.Sharing.{OpensNext, IsShared}
use Rattle.proof_parts.specs.Sights.{Sight}

-- T is the transport t, which puts out `Start` before it hands a request on, as server s. It gives up what stands for a result of its own.
pub record IsStarting (s : ℕ) (via : Via) {U R : Type 0} (t T : Transport Request U R) (IsPlaced : U → Type 0) (Fits : R → Type 0) : Type 0 where
  pub send : (r : Request) (u : U) (v : View) → IsPlaced u → T.send r u v ≡ t.send r u (asks (Start v.request s via) v)
  pub step : (h : Heard) (u : U) (v : View) → T.step h u v ≡ t.step h u v
  pub cancel : (r : R) (u : U) (v : View) → IsPlaced u → Fits r → T.cancel r u v ≡ t.cancel r u v
  pub response : (r : Request) (u : U) (v : View) → T.response r u v ≡ t.response r u v
  pub fits : (r : Request) (u : U) (v : View) → IsPlaced u → Fits (T.response r u v)

-- what is put off here is what is deferred there
pub record SameDeferring (here : RedundantSettings) (there : Settings) : Type 0 where
  pub errors : here.defer_transport_error ≡ there.defers_errors
  pub refused : here.defer_refused ≡ there.defers_refused
  pub servfail : here.defer_servfail ≡ there.defers_servfail

-- All of which a choice among tied servers is made: a configuration and settings, a part and the places that it opens,
-- the transport of a server with its tie as each of them, what it leaves alone, and how each begins.
pub record Choosing : Type 1 where
  pub c : Conf
  pub st : Settings
  pub settings : RedundantSettings
  pub same : SameDeferring settings st
  pub P : ServerPart c
  pub U : Type 0
  pub R : Type 0
  pub below : Transport Request U R
  pub ticket : R → ℕ
  pub bare : ℕ → Transport Request U R
  pub via : ℕ → Via
  pub first : ℕ → U
  pub Tied : ℕ → Phase → U → Sight → P.State → Type 0
  pub names : U → ℕ → Option ℕ
  pub Owns : U → ℕ → Type 0
  pub has : P.State → (place : ℕ) → Bool
  pub opens : OpensNext P has
  pub IsPlaced : ℕ → U → Type 0
  pub Fits : ℕ → R → Type 0
  pub placed : (s : ℕ) (phase : Phase) (u : U) (x : Sight) (a : P.State) → Tied s phase u x a → IsPlaced s u
  pub tie : (s : ℕ) → s < length c.servers → IsTie P s (via s) (bare s) ticket (first s) (Tied s) names Owns
  pub layer : (s : ℕ) → s < length c.servers → IsStarting s (via s) (bare s) below (IsPlaced s) (Fits s)
  pub shared : (s : ℕ) → s < length c.servers → IsShared P has (bare s) (Tied s) Owns
