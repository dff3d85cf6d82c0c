-- Of words that come nothing is told but what is answered.
use Rattle.std.proofs.Common.{ℕ, List, Option, Result, Ok, Err}
use Rattle.std.specs.Prelude.{IfOk}
use Rattle.client_loop.specs.Asking.{IsAnswered, Scene}
use Rattle.client_request.specs.Request.{Request}
use Rattle.client_request.specs.declared.error.Error.{Error}
use Rattle.client_request.specs.declared.event.Row.{Row}
use Rattle.dns_record.specs.Asking.{IsAnsweredAnd}

pub answered_alone : (number : ℕ) (request : Request) (old new : Scene) (r : Result (Option (Result (List ℕ) Error)) Error) → IfOk r (IsAnswered number 1000000 request old new)
    → IfOk r (λ answer. IsAnsweredAnd (λ (rows : List Row). Unit {0}) number 1000000 request answer old new)
answered_alone number request old new (Ok answer) h = record { answered = h; holds = tt }
answered_alone number request old new (Err error) h = h
