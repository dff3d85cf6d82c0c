-- The members of a transport's trait, as the plain client takes them.
use Rattle.std.specs.Prelude.{ℕ, Bool, List, Option, Result}
use Rattle.client_request.specs.Calls.{HoldsStep}
use Rattle.client_request.specs.Request.{Request}
use Rattle.client_request.specs.View.{View, Transport}
use Rattle.client_request.specs.Cx.{view_of}
use Rattle.client_request.specs.declared.cx.Cx.{Cx}
use Rattle.client_request.specs.declared.error.Error.{Error}
use Rattle.client_steps.specs.Client.{Machine, Client, Asked, client_of}

abbrev pub machine_of : {U P : Type 0} → Transport Request U P → (P → ℕ) → (P → U → View → Option (List ℕ)) → Machine U P
machine_of t ticket stale = record { send = t.send; step = t.step; cancel = t.cancel; response = t.response; ticket = ticket; stale = stale }

-- the client while it is in a context
abbrev pub client_in : {U P W : Type 0} → U → Asked P → (W → ℕ → ℕ) → Cx W → Client U P
client_in layer asked stream cx = client_of layer (asked, view_of stream cx)

-- A call over a transport and the requests that wait, as they were and as they are: it takes this step of the client.
abbrev pub ClientHolds : {U P W A : Type 0} → (stream : W → ℕ → ℕ) → (old new : Cx W) → Result A Error → (step : Client U P → Option (Client U P)) → (holds_failed : U → Bool) → (before after : U × Asked P) → Type 0
ClientHolds stream old new result step holds_failed before after =
    HoldsStep old new result (step (client_in before.0 before.1 stream old)) (client_in after.0 after.1 stream new) (holds_failed before.0) (holds_failed before.0) (holds_failed after.0)
