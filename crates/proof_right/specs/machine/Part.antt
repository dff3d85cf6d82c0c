-- One server's part of a client, whatever transport it is: what it holds, how it may move, and what a move makes.
use Rattle.std.specs.Prelude.{◌≡◌, ℕ, Bool, ◌⊎◌, List, [], ◌∷◌, Result}
use Rattle.client_request.specs.Request.{Request}
use Rattle.client_request.specs.declared.error.Error.{Error}
use Rattle.client_request.specs.declared.event.Event.{Event}
use Rattle.client_request.specs.declared.event.Out.{Out}
use Rattle.right_trace.specs.Trace.{Conf}
use Rattle.right_trace.specs.Messages.{Octets}

-- a result that a server gives for a request
pub record Post : Type 0 where
  pub request : ℕ
  pub result : Result Octets Error

-- what a move leaves and puts out, the next free number of a place, and the results that it gives
pub record Act (U : Type 0) : Type 0 where
  pub state : U
  pub place : ℕ
  pub outs : List Out
  pub posts : List Post

abbrev pub IsPosted : Post → List Post → Type 0
IsPosted x [] = ⊥
IsPosted x (y ∷ ys) = (y ≡ x) ⊎ IsPosted x ys

-- `begin` hands it the event of a row; `Acts` is a move of its own (a timer, the event), `Starts` takes a request on, `Cancels` gives one up; each may go on in several ways. Each is told the number of the server and the next free number of a place. It `Rests` when nothing is left to do in this row.
pub record ServerPart (c : Conf) : Type 1 where
  pub State : Type 0
  pub fresh : State
  pub holds : State → (k : ℕ) → Bool
  pub begin : Event → State → State
  pub Acts : (s place : ℕ) → State → Act State → Type 0
  pub Starts : (s place k : ℕ) → Request → State → Act State → Type 0
  pub Cancels : (s place k : ℕ) → State → Act State → Type 0
  pub Rests : State → Type 0
