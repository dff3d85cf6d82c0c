-- What a query asks, and what it gets.
use Rattle.std.specs.Prelude.{◌≡◌, ℕ, ◌==◌, ◌&&◌, ◌||◌, Bool, true, false, List, [], ◌∷◌, ◌++◌, Option, None, Some, Result, Ok, Err}
use Rattle.dns_names.specs.Name.{Labels}
use Rattle.dns_base.specs.Draft.{finished, fresh, pushed_question, with_header}
use Rattle.dns_base.specs.Header.{rcode_of}
use Rattle.client_request.specs.Request.{Request, is_misformed, recorded_from}
use Rattle.client_request.specs.declared.error.Error.{Error}
use Rattle.client_request.specs.declared.error.Error.TheVariants as errors
use Rattle.client_loop.specs.Asking.{IsAnswered, Scene, StopsForNumbers}
use Rattle.resolv_lookup.specs.Asked.{Asks, Got}
use Rattle.resolv_lookup.specs.ListAnswers.{faults_after}
use Rattle.resolv_lookup.specs.Services.{Fits, LooksUpSrv, Outcome}
use Rattle.resolv_lookup.specs.declared.fault.QueryFault.TheVariants.{Client, NoReply}
use Rattle.resolv_lookup.specs.declared.resolver.Asking.{Asking}
use Rattle.stub_resolver.specs.Stub.{Stub, with_fault}

-- the header of a question with recursion desired (RFC 1035 4.1.1)
abbrev pub recursive : List ℕ
recursive = 0 ∷ 0 ∷ 1 ∷ 0 ∷ []

-- the message that asks for the records of a type that a name has, of class IN
abbrev pub question : Labels → ℕ → List ℕ
question name rtype = finished (pushed_question (record { name = name; rtype = rtype; class = 1 }) (with_header recursive (fresh None)))

-- the client's reply to a request, if it came
abbrev pub Reply : Type 0
Reply = Option (Result (List ℕ) Error)

-- A request was asked, and this is the client's reply to it; none came in a million turns.
pub record Answers (request : Request) (old new : Scene) (reply : Reply) : Type 0 where
  pub answered : IsAnswered old.client.asked.next 1000000 request old new reply
  pub timeout : new.client.timeout ≡ old.client.timeout

-- The reply is a message that says that its question could not be read (RFC 1035 4.1.1).
abbrev pub is_formerr : Reply → Bool
is_formerr (Some (Ok octets)) = rcode_of octets == 1
is_formerr _ = false

-- A request was asked once, or once more where its first reply said that it could not be read.
pub data Replies (again : Bool) (request : Request) (old new : Scene) (reply : Reply) : Type 0 where
  once : (again && is_formerr reply) ≡ false → Answers request old new reply → Replies again request old new reply
  twice : (between : Scene) (first : Reply) → (again && is_formerr first) ≡ true → Answers request old between first → Answers request between new reply
      → Replies again request old new reply

-- A number would pass 64 bits when the request is asked, or when it is asked once more.
pub data Stops (again : Bool) (request : Request) (old new : Scene) : Type 0 where
  at_first : StopsForNumbers request old new → Stops again request old new
  at_second : (between : Scene) (first : Reply) → (again && is_formerr first) ≡ true → Answers request old between first → StopsForNumbers request between new
      → Stops again request old new

-- what a query gets of a reply
abbrev pub got_of : Reply → Got
got_of None = Err NoReply
got_of (Some (Ok octets)) = Ok octets
got_of (Some (Err error)) = Err (Client error)

-- What a query of a message gets.
pub data Gets (again : Bool) (message : List ℕ) (old new : Scene) (got : Got) : Type 0 where
  -- several messages may answer this one, and nothing was asked
  misformed : is_misformed message ≡ true → new ≡ old → got ≡ Err (Client errors.FormError) → Gets again message old new got
  replied : is_misformed message ≡ false → (reply : Reply) → Replies again (recorded_from message) old new reply → got ≡ got_of reply → Gets again message old new got
  -- numbers ran out
  stopped : is_misformed message ≡ false → Stops again (recorded_from message) old new → got ≡ Err (Client errors.NumbersUsed) → Gets again message old new got
  -- memory ran out
  starved : got ≡ Err (Client errors.NoMemory) → Gets again message old new got

-- the same, as resolvers are seen
abbrev pub GetsBy : {E C W : Type 0} → (see : Stub E C W → Scene) → (again : Bool) (message : List ℕ) (old new : Stub E C W) (got : Got) → Type 0
GetsBy see again message old new got = Gets again message (see old) (see new) got

abbrev pub IsGot : Got → (again : Bool) (message : List ℕ) (old new : Scene) → Type 0
IsGot got again message old new = Gets again message old new got

-- After this a resolver is of no use: memory or numbers ran out.
abbrev pub is_want : Got → Bool
is_want (Err (Client errors.NoMemory)) = true
is_want (Err (Client errors.NumbersUsed)) = true
is_want _ = false

-- What a query of a message does. `see` is what is seen of a resolver.
pub record Queries {E C W : Type 0} (see : Stub E C W → Scene) (again : Bool) (message : List ℕ) (old new : Stub E C W) (got : Got) : Type 0 where
  -- after a call that found no memory or number nothing is asked
  pub failed : old.failed ≡ true → (got ≡ Err (Client errors.Failed)) × (new ≡ with_fault old)
  pub gets : old.failed ≡ false → Gets again message (see old) (see new) got
  pub count : new.faults ≡ faults_after got old.faults
  pub lasts : new.failed ≡ (old.failed || is_want got)
  pub options : new.options ≡ old.options

-- A question was asked, which is told to no one.
abbrev pub AsksStub : {E C W : Type 0} → (Stub E C W → Scene) → Stub E C W → Asking → Stub E C W → Type 0
AsksStub see = Asks (λ old one new. Queries see true (question one.name one.rtype.0) old new one.got) (λ _. None)

-- A service of a name was looked up, where the name of both fits.
abbrev pub FindsSrv : {R : Type 0} → (R → Asking → R → Type 0) → (service name : Labels) (port : ℕ) (before after : R) (old new : ℕ → ℕ) → Outcome → Type 0
FindsSrv asks service name port before after old new outcome = Fits (service ++ name) → LooksUpSrv asks (service ++ name) name port before after old new outcome
