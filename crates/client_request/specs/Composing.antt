-- Composing a request.
use Rattle.std.specs.Prelude.{◌≡◌, ℕ, ◌⊎◌, List, Option, Result, Ok, Err}
use Rattle.dns_base.specs.Message.{Asked, sole_question}
use Rattle.client_request.specs.declared.error.Error.{Error}
use Rattle.client_request.specs.declared.error.Error.TheVariants.{NoMemory}

-- The result is what composing gives, unless memory ran out.
abbrev pub IsComposed : Result (List ℕ) Error → Result (List ℕ) Error → Type 0
IsComposed composed (Ok message) = composed ≡ Ok message
IsComposed composed (Err error) = (error ≡ NoMemory) ⊎ (composed ≡ Err error)

-- whether a message comes of it, or why none does
abbrev pub without_message : Result (List ℕ) Error → Result (Unit {0}) Error
without_message (Ok message) = Ok tt
without_message (Err error) = Err error

-- the only question of a message
abbrev pub IsAsked : (message : List ℕ) → Option Asked → Type 0
IsAsked message question = question ≡ sole_question message
