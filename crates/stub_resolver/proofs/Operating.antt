-- An operation for which no resolver could be made.
use Rattle.std.proofs.Common.{◌≡◌, Result, subst}
use Rattle.std.proofs.lemmas.Result.{err_from_is_err_and}
use Rattle.std.specs.Result.{IsErrAnd}
use Rattle.client_request.specs.declared.error.Error.{Error}
use Rattle.client_request.specs.declared.error.Error.TheVariants.{NoMemory}
use Rattle.stub_resolver.specs.Making.{IsDone, starved}
use Rattle.stub_resolver.specs.Stub.{Stub}

pub not_made : {E C W T F : Type 0} (IsMade : Stub E C W → Type 0) (Gives : Stub E C W → Result T F → Stub E C W → Type 0) (gives : Error → F → Type 0) (error : Error) (result : Result T F)
    → IsErrAnd result (gives error) → error ≡ NoMemory → IsDone IsMade Gives (λ fault. gives NoMemory fault) result
not_made IsMade Gives gives error result is want =
    let x = err_from_is_err_and result is in
    starved x.0 (subst (λ (e : Error). gives e x.0) want x.2) x.1
