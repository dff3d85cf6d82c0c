-- What a request that was handed on gets.
use Rattle.std.specs.Prelude.{◌||◌, ℕ, Bool, true, false, List, Option, Some, None, Result, Ok, Err}
use Rattle.client_request.specs.Board.{Part, part_of, without_part}
use Rattle.client_request.specs.declared.board.Posted.{Posted}
use Rattle.client_request.specs.declared.error.Error.{Error}
use Rattle.client_request.specs.declared.error.Error.TheVariants.{AlreadyDone, ConnectionClosed, WrongReplyForQuery, NoMemory, NumbersUsed, Failed}
use Rattle.client_request.specs.declared.response.Poll.{Poll}
use Rattle.client_request.specs.declared.response.Poll.TheVariants.{Ready, Pending}

-- what stands for a ticket, as the result of a request of one message
abbrev pub polled : Option Part → Poll (Result (List ℕ) Error)
polled None = Pending
polled (Some (Ok (Some message))) = Ready (Ok message)
polled (Some (Ok None)) = Ready (Err ConnectionClosed)
polled (Some (Err error)) = Ready (Err error)

-- the answer to a request of which the result was given, or not
abbrev pub response_of : (given : Bool) → ℕ → List Posted → Poll (Result (List ℕ) Error)
response_of true ticket board = Ready (Err AlreadyDone)
response_of false ticket board = polled (part_of ticket board)

abbrev pub board_after : (given : Bool) → ℕ → List Posted → List Posted
board_after true ticket board = board
board_after false ticket board = without_part ticket board

abbrev pub is_ready : {T : Type 0} → Poll T → Bool
is_ready (Ready x) = true
is_ready Pending = false

-- what stands for a ticket, as one of the results of a request that several messages answer
abbrev pub polled_part : Option Part → Poll Part
polled_part None = Pending
polled_part (Some part) = Ready part

-- the answer to such a request of which the end was given, or not
abbrev pub part_response_of : (ended : Bool) → ℕ → List Posted → Poll Part
part_response_of true ticket board = Ready (Err ConnectionClosed)
part_response_of false ticket board = polled_part (part_of ticket board)

-- None is the end of a transfer, and so is each error but the one after which messages may come.
abbrev pub is_end : Part → Bool
is_end (Ok None) = true
is_end (Ok (Some message)) = false
is_end (Err WrongReplyForQuery) = false
is_end (Err error) = true

-- whether the end was given, once a result is
abbrev pub ended_after : (ended : Bool) → Poll Part → Bool
ended_after ended Pending = ended
ended_after ended (Ready part) = ended || is_end part

-- what stands for the result of a request: its ticket, and whether the result was given
pub record Asked : Type 0 where
  pub ticket : ℕ
  pub given : Bool

-- why a call of a transport gives up
abbrev pub IsRefusal : Error → Type 0
IsRefusal NoMemory = Unit {0}
IsRefusal NumbersUsed = Unit {0}
IsRefusal Failed = Unit {0}
IsRefusal _ = ⊥
