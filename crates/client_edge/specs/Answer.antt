-- What the system gives, as an answer of a socket.
use Rattle.std.specs.Prelude.{◌≡◌, ℕ, List, take, Result, Ok, Err}
use Rattle.socket_places.specs.declared.socket.Answer.{Answer}
use Rattle.socket_places.specs.declared.socket.Answer.TheVariants.{Done, Failed, Later}

-- the answer has no value
abbrev pub IsNoValue : {T : Type 0} → Answer T → Type 0
IsNoValue (Done value) = ⊥
IsNoValue (Failed fault) = Unit {0}
IsNoValue Later = Unit {0}

-- The answer has the value that the system gave, or none.
abbrev pub IsAnswerOf : {T E : Type 0} → Result T E → Answer T → Type 0
IsAnswerOf (Ok value) answer = answer ≡ Done value
IsAnswerOf (Err error) answer = IsNoValue answer

-- The octets with which a buffer was filled are its first ones.
abbrev pub first_of : List ℕ → Answer ℕ → Answer (List ℕ)
first_of buf (Done count) = Done (take count buf)
first_of buf (Failed fault) = Failed fault
first_of buf Later = Later
