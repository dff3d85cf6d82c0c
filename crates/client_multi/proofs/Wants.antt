-- A connection that never gave up refuses for want alone.
use Rattle.std.specs.Prelude.{◌≡◌, Bool, true, false, Result, Err}
use Rattle.std.specs.Result.{IsErrOf}
use Rattle.client_request.specs.Response.{IsRefusal}
use Rattle.client_request.specs.Timers.{IsWant}
use Rattle.client_request.specs.declared.error.Error.{Error}
use Rattle.client_request.specs.declared.error.Error.TheVariants.{NoMemory, NumbersUsed, Failed}

pub is_want : {T : Type 0} (r : Result T Error) (e : Error) (failed : Bool) → r ≡ Err e → IsRefusal e → (IsErrOf r Failed → failed ≡ true) → failed ≡ false → IsWant e
is_want r NoMemory failed was refused only still = tt
is_want r NumbersUsed failed was refused only still = tt
is_want r Failed failed was refused only still =
    let gone = only was in
    absurd (cc)
is_want r _ failed was refused only still = absurd refused
