-- The fault that an error of the stream is.
use Rattle.std.proofs.Common.{◌≡◌, ◌≢◌, ◌⊎◌, inl, inr, refl}
use Rattle.client_request.specs.Response.{IsRefusal}
use Rattle.client_request.specs.declared.error.Error.{Error}
use Rattle.client_request.specs.declared.error.Error.TheVariants as errors
use Rattle.zone_transfer.specs.Reading.{fault_of}
use Rattle.zone_transfer.specs.declared.fault.FetchFault.TheVariants.{Transport, NoMemory}

-- want of memory is one, and each other error is told
abbrev pub IsTold : Error → Type 0
IsTold error = ((error ≡ errors.NoMemory) × (fault_of error ≡ NoMemory)) ⊎ ((error ≢ errors.NoMemory) × (fault_of error ≡ Transport error))

pub told : (error : Error) → IsTold error
told errors.ConnectionClosed = inr ((λ e. absurd (cc)), refl)
told errors.OptTooLong = inr ((λ e. absurd (cc)), refl)
told errors.MessageBuilderPushError = inr ((λ e. absurd (cc)), refl)
told errors.MessageParseError = inr ((λ e. absurd (cc)), refl)
told errors.RedundantTransportNotFound = inr ((λ e. absurd (cc)), refl)
told errors.FormError = inr ((λ e. absurd (cc)), refl)
told errors.ShortMessage = inr ((λ e. absurd (cc)), refl)
told errors.StreamLongMessage = inr ((λ e. absurd (cc)), refl)
told errors.StreamIdleTimeout = inr ((λ e. absurd (cc)), refl)
told errors.StreamReceiveError = inr ((λ e. absurd (cc)), refl)
told (errors.StreamReadError x) = inr ((λ e. absurd (cc)), refl)
told errors.StreamReadTimeout = inr ((λ e. absurd (cc)), refl)
told errors.StreamTooManyOutstandingQueries = inr ((λ e. absurd (cc)), refl)
told (errors.StreamWriteError x) = inr ((λ e. absurd (cc)), refl)
told errors.StreamUnexpectedEndOfData = inr ((λ e. absurd (cc)), refl)
told errors.WrongReplyForQuery = inr ((λ e. absurd (cc)), refl)
told errors.NoTransportAvailable = inr ((λ e. absurd (cc)), refl)
told (errors.Dgram x) = inr ((λ e. absurd (cc)), refl)
told errors.NoMemory = inl (refl, refl)
told errors.NumbersUsed = inr ((λ e. absurd (cc)), refl)
told errors.TimedOut = inr ((λ e. absurd (cc)), refl)
told errors.AlreadyDone = inr ((λ e. absurd (cc)), refl)
told errors.Failed = inr ((λ e. absurd (cc)), refl)

-- why a call of a transport gives up: want of memory, or numbers, or it did before
abbrev pub IsOneRefusal : Error → Type 0
IsOneRefusal error = (error ≡ errors.NoMemory) ⊎ (error ≡ errors.NumbersUsed) ⊎ (error ≡ errors.Failed)

pub refusals : (error : Error) → IsRefusal error → IsOneRefusal error
refusals errors.ConnectionClosed r = absurd r
refusals errors.OptTooLong r = absurd r
refusals errors.MessageBuilderPushError r = absurd r
refusals errors.MessageParseError r = absurd r
refusals errors.RedundantTransportNotFound r = absurd r
refusals errors.FormError r = absurd r
refusals errors.ShortMessage r = absurd r
refusals errors.StreamLongMessage r = absurd r
refusals errors.StreamIdleTimeout r = absurd r
refusals errors.StreamReceiveError r = absurd r
refusals (errors.StreamReadError x) r = absurd r
refusals errors.StreamReadTimeout r = absurd r
refusals errors.StreamTooManyOutstandingQueries r = absurd r
refusals (errors.StreamWriteError x) r = absurd r
refusals errors.StreamUnexpectedEndOfData r = absurd r
refusals errors.WrongReplyForQuery r = absurd r
refusals errors.NoTransportAvailable r = absurd r
refusals (errors.Dgram x) r = absurd r
refusals errors.NoMemory r = inl refl
refusals errors.NumbersUsed r = inr (inl refl)
refusals errors.TimedOut r = absurd r
refusals errors.AlreadyDone r = absurd r
refusals errors.Failed r = inr (inr refl)
