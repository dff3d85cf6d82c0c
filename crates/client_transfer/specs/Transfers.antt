-- What messages give to a transfer, one behind the other.
use Rattle.std.specs.Prelude.{◌≡◌, ℕ, ◌==◌, ◌&&◌, not, Bool, true, false, if◌then◌else◌, List, [], ◌∷◌, ◌++◌, length, Some, None, Result, Ok, Err}
use Rattle.dns_values.specs.declared.error.ParseError.{ParseError}
use Rattle.client_request.specs.Board.{Part}
use Rattle.client_request.specs.Response.{is_end}
use Rattle.client_request.specs.declared.error.Error.TheVariants.{WrongReplyForQuery}
use Rattle.client_request.specs.Requests.{Requests}
use Rattle.client_transfer.specs.declared.state.XfrState.{XfrState}
use Rattle.client_transfer.specs.declared.state.XfrState.TheVariants.{Error}
use Rattle.client_transfer.specs.States.{Checked, checked, takes_items, takes_then}
use Rattle.dns_base.specs.Message.{Known}

-- The message itself, where it belongs to the transfer.
abbrev pub part_given : List ℕ → (taken : Bool) → Part
part_given message true = Ok (Some message)
part_given message false = Err WrongReplyForQuery

-- and then the end, where the transfer ends
abbrev pub end_given : (ends : Bool) → List Part
end_given true = Ok None ∷ []
end_given false = []

abbrev pub parts_given : List ℕ → Checked → List Part
parts_given message (ends, state, taken) = part_given message taken ∷ end_given ends

-- a transfer: its state, whether it ended, and the results that were given
pub record Transfer : Type 0 where
  pub state : XfrState
  pub ended : Bool
  pub parts : List Part

abbrev pub begun : XfrState → Transfer
begun state = record { state = state; ended = false; parts = [] }

abbrev pub goes_on : Transfer → List ℕ → Checked → Transfer
goes_on t message (ends, state, taken) = record { state = state; ended = ends; parts = t.parts ++ parts_given message (ends, state, taken) }

module _ {R : Type 0} (requests : Requests R) (request : R) where
  -- one message more; none counts after the end
  abbrev pub brings : Transfer → List ℕ → Transfer
  brings t message = if t.ended then t else goes_on t message (checked requests request t.state message)

  -- messages, one behind the other
  abbrev pub transferred : Transfer → List (List ℕ) → Transfer
  transferred t [] = t
  transferred t (message ∷ messages) = transferred (brings t message) messages

-- An end stands last among results, and just where the transfer ended.
abbrev pub ends_once : (ended : Bool) → List Part → Bool
ends_once ended [] = not ended
ends_once ended (part ∷ parts) = if is_end part then ended && length parts == 0 else ends_once ended parts

abbrev pub EndsOnce : Transfer → Type 0
EndsOnce t = ends_once t.ended t.parts ≡ true

-- The results of a transfer are the fold of what each message gives.
pub record TransferLaw {R : Type 0} (requests : Requests R) : Type 0 where
  -- It doesn't matter where the list of messages is cut,
  pub cut : (request : R) (t : Transfer) (a b : List (List ℕ)) → transferred requests request t (a ++ b) ≡ transferred requests request (transferred requests request t a) b
  -- nor where the records of an answer section are,
  pub records : (state : XfrState) (a b : List (Result Known ParseError)) → takes_items state (a ++ b) ≡ takes_then (λ next. takes_items next b) (takes_items state a)
  -- nothing is given after the end, and that is given once
  pub ended : (request : R) (t : Transfer) (messages : List (List ℕ)) → t.ended ≡ true → transferred requests request t messages ≡ t
  pub once : (request : R) (state : XfrState) (messages : List (List ℕ)) → EndsOnce (transferred requests request (begun state) messages)
  -- and after a message was refused none is taken any more.
  pub refused : (request : R) (t : Transfer) (messages : List (List ℕ)) → t.state ≡ Error → (transferred requests request t messages).state ≡ Error
