-- What is told of a reply where it would be put.
use Rattle.std.specs.Prelude.{ℕ, ◌==◌, ◌&&◌, ◌⊎◌, Bool, false, Option, Some, None}
use Rattle.client_request.specs.declared.error.Error.{Error}
use Rattle.client_request.specs.declared.error.Error.TheVariants as errors
use Rattle.client_request.specs.declared.error.QueryError.TheVariants as query
use Rattle.client_request.specs.declared.fault.Fault.{Fault}
use Rattle.client_request.specs.declared.fault.Fault.TheVariants as fault
use Rattle.right_trace.specs.{Trace.History, Messages.Octets, Coming.CameFirst, Owed.AllAreDone}
use Rattle.right_trace.specs.Errors.{OwnCause, HasCause, IsKeptError, DirectCause}
use Rattle.trace_points.specs.questions.Outs.{Tells}
use Rattle.trace_replies.specs.firsts.Failing.{MessageFails}
use Rattle.trace_replies.specs.declared.messages.message.{Told.Told, Judged.Judged}
use Rattle.trace_replies.specs.messages.Message.{FailsHere, IsTold, IsJudged}
use Rattle.trace_judge.specs.declared.case.{Case.Case, Mark.Mark}
use Rattle.trace_judge.specs.declared.course.Course.{Course}
use Rattle.trace_judge.specs.Known.{Known, conf_in, settings_in, event_in}

abbrev pub marked_as_failing : Option Mark → (k : ℕ) → Bool
marked_as_failing None k = false
marked_as_failing (Some m) k = (m.request == k) && m.fails

-- at each point that is known so
abbrev pub AtPoints : Case → Course → ((x h : History) → Type 0) → Type 0
AtPoints p t P = (x h : History) → Known x h p t → P x h

abbrev pub IsOwnCause : Case → (k : ℕ) → Error → (x h : History) → Type 0
IsOwnCause p k e x h = OwnCause (conf_in p) (settings_in p) e k x (event_in p) h

abbrev pub TellsOwn : Case → Course → (k : ℕ) → Error → Bool → Type 0
TellsOwn p t k e b = AtPoints p t (λ x h. Tells (IsOwnCause p k e x h) b)

-- an error of a datagram try with this fault has its own cause
abbrev pub FailsWith : Case → (k : ℕ) → Fault → (x h : History) → Type 0
FailsWith p k f x h = IsOwnCause p k (errors.Dgram (query.Connect f)) x h ⊎ (IsOwnCause p k (errors.Dgram (query.Send f)) x h ⊎ IsOwnCause p k (errors.Dgram (query.Receive f)) x h)

abbrev pub TellsFailsWith : Case → Course → (k : ℕ) → Fault → Bool → Type 0
TellsFailsWith p t k f b = AtPoints p t (λ x h. Tells (FailsWith p k f x h) b)

abbrev pub FailsBySocket : Case → (k : ℕ) → (x h : History) → Type 0
FailsBySocket p k x h =
    FailsWith p k fault.Refused x h ⊎ (FailsWith p k fault.Reset x h ⊎ (FailsWith p k fault.Unreachable x h
    ⊎ (FailsWith p k fault.InUse x h ⊎ (FailsWith p k fault.Broken x h ⊎ FailsWith p k fault.Other x h))))

abbrev pub TellsFailsBySocket : Case → Course → (k : ℕ) → Bool → Type 0
TellsFailsBySocket p t k b = AtPoints p t (λ x h. Tells (FailsBySocket p k x h) b)

abbrev pub FailsByClient : Case → (k : ℕ) → (x h : History) → Type 0
FailsByClient p k x h = FailsWith p k fault.Expired x h ⊎ (FailsWith p k fault.ShortSend x h ⊎ (FailsWith p k fault.NothingTaken x h ⊎ FailsWith p k fault.EndOfData x h))

abbrev pub TellsFailsByClient : Case → Course → (k : ℕ) → Bool → Type 0
TellsFailsByClient p t k b = AtPoints p t (λ x h. Tells (FailsByClient p k x h) b)

abbrev pub FailsWithoutFault : Case → (k : ℕ) → (x h : History) → Type 0
FailsWithoutFault p k x h =
    IsOwnCause p k errors.TimedOut x h ⊎ (IsOwnCause p k (errors.Dgram query.Timeout) x h ⊎ (IsOwnCause p k errors.WrongReplyForQuery x h ⊎ IsOwnCause p k errors.StreamReadTimeout x h))

abbrev pub TellsFailsWithoutFault : Case → Course → (k : ℕ) → Bool → Type 0
TellsFailsWithoutFault p t k b = AtPoints p t (λ x h. Tells (FailsWithoutFault p k x h) b)

abbrev pub TellsFailsByMessage : Case → Course → (k : ℕ) → Bool → Type 0
TellsFailsByMessage p t k b = AtPoints p t (λ x h. Tells (MessageFails (conf_in p) (settings_in p) k x (event_in p) h) b)

abbrev pub TellsFails : Case → Course → (k : ℕ) → Bool → Type 0
TellsFails p t k b = AtPoints p t (λ x h. Tells (FailsHere (conf_in p) (settings_in p) k x (event_in p) h) b)

abbrev pub TellsFirstCome : Case → Course → (k : ℕ) → Octets → Bool → Type 0
TellsFirstCome p t k m b = AtPoints p t (λ x h. Tells (CameFirst (conf_in p) k m x (event_in p) h) b)

abbrev pub TellsDone : Case → Course → (k : ℕ) → Bool → Type 0
TellsDone p t k b = AtPoints p t (λ x h. Tells (AllAreDone (conf_in p) k x (event_in p) h) b)

abbrev pub TellsTold : Case → Course → (k : ℕ) → Octets → Told → Type 0
TellsTold p t k m told = AtPoints p t (λ x h. IsTold (conf_in p) (settings_in p) k m x h told)

abbrev pub TellsMessage : Case → Course → (k : ℕ) → Octets → Judged → Type 0
TellsMessage p t k m j = AtPoints p t (λ x h. IsJudged (conf_in p) (settings_in p) k m x h j)

abbrev pub TellsKept : Case → Course → (k : ℕ) → Error → Bool → Type 0
TellsKept p t k e b = AtPoints p t (λ x h. Tells (IsKeptError (conf_in p) (settings_in p) e k h) b)

abbrev pub TellsCause : Case → Course → (k : ℕ) → Error → Bool → Type 0
TellsCause p t k e b = AtPoints p t (λ x h. Tells (HasCause (conf_in p) (settings_in p) e k x (event_in p) h) b)

abbrev pub TellsDirect : Case → Course → (k : ℕ) → Error → Bool → Type 0
TellsDirect p t k e b = AtPoints p t (λ x h. Tells (DirectCause (conf_in p) (settings_in p) k x (event_in p) h e) b)
