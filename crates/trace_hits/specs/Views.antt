-- Whether a message says the view of a kept one.
use Rattle.std.specs.Prelude.{◌≡◌, ℕ, Bool, Some}
use Rattle.dns_names.specs.Name.{Labels}
use Rattle.dns_base.specs.Data.{Data}
use Rattle.client_request.specs.Request.{Request}
use Rattle.right_trace.specs.{Messages.Octets, Views.view_of}
use Rattle.right_trace.specs.Keys.{key_of, spelled_name}
use Rattle.right_trace.specs.Parts.{Parts, known_parts, Says}
use Rattle.message_judging.specs.declared.views.serving.Flags.{Flags}
use Rattle.message_judging.specs.views.Serving.{HasFlags}
use Rattle.trace_points.specs.questions.Outs.{Tells}

-- the answer, of all requests with these flags of which the second spells this name
abbrev pub TellsGiven : (kept : Octets) (from to : Flags) → Labels → (age : ℕ) (given : Octets) → Bool → Type 0
TellsGiven kept from to name age given b = (q r : Request) (x : Parts Data) → HasFlags q from → HasFlags r to → spelled_name r ≡ name → known_parts kept ≡ Some x → Tells (Says given (view_of q r age x)) b

-- the answer, of all requests with the key of one
abbrev pub TellsView : Request → (age : ℕ) (kept given : Octets) → Bool → Type 0
TellsView r age kept given b = (q : Request) (x : Parts Data) → key_of q ≡ key_of r → known_parts kept ≡ Some x → Tells (Says given (view_of q r age x)) b
