-- Two questions that are asked side by side, and what they get.
use Rattle.std.specs.Prelude.{◌≡◌, ◌<◌, ℕ, ◌||◌, true, false, List, None, Err}
use Rattle.dns_values.specs.Source.{last_count}
use Rattle.client_request.specs.Request.{Request, is_misformed, recorded_from}
use Rattle.client_request.specs.declared.error.Error.TheVariants as errors
use Rattle.client_loop.specs.Asking.{Scene, StopsForNumbers}
use Rattle.client_loop.specs.Both.{AreAnswered, StopForNumbers}
use Rattle.client_loop.specs.declared.both.BothReplies.{BothReplies}
use Rattle.resolv_lookup.specs.Asked.{AsksBoth, Got}
use Rattle.resolv_lookup.specs.ListAnswers.{faults_after}
use Rattle.resolv_lookup.specs.declared.fault.QueryFault.TheVariants.{Client}
use Rattle.resolv_lookup.specs.declared.resolver.Asking.{Asking}
use Rattle.stub_resolver.specs.Queries.{Answers, Queries, Reply, got_of, is_formerr, is_want, question}
use Rattle.stub_resolver.specs.Stub.{Stub}

-- A reply stands, unless it says that its question could not be read: then its request is asked once more.
pub data Settles (request : Request) (first : Reply) (old new : Scene) (reply : Reply) : Type 0 where
  stands : is_formerr first ≡ false → new ≡ old → reply ≡ first → Settles request first old new reply
  again : is_formerr first ≡ true → Answers request old new reply → Settles request first old new reply

-- Each of two replies settles, the first before the second.
pub record SettleBoth (first second : Request) (early : BothReplies) (old new : Scene) (replies : BothReplies) : Type 0 where
  pub between : Scene
  pub first_settles : Settles first early.first old between replies.first
  pub second_settles : Settles second early.second between new replies.second

-- Two requests were asked side by side, and what they got settled.
pub record ReplyBoth (first second : Request) (old new : Scene) (replies : BothReplies) : Type 0 where
  pub early : BothReplies
  pub middle : Scene
  pub answered : AreAnswered old.client.asked.next 1000000 first second old middle early
  pub timeout : middle.client.timeout ≡ old.client.timeout
  pub settle : SettleBoth first second early middle new replies

-- A number would pass 64 bits when one of two requests is asked once more.
pub data StopAgain (first second : Request) (early : BothReplies) (old new : Scene) : Type 0 where
  at_first : is_formerr early.first ≡ true → StopsForNumbers first old new → StopAgain first second early old new
  at_second : (between : Scene) (reply : Reply) → Settles first early.first old between reply → is_formerr early.second ≡ true → StopsForNumbers second between new
      → StopAgain first second early old new

-- A number would pass 64 bits while two requests are asked side by side, or behind that.
pub data StopBoth (first second : Request) (old new : Scene) : Type 0 where
  while_both : StopForNumbers first second old new → StopBoth first second old new
  when_settling : (early : BothReplies) (middle : Scene) → AreAnswered old.client.asked.next 1000000 first second old middle early → StopAgain first second early middle new
      → StopBoth first second old new

-- what two requests that are asked side by side get
pub data GetBoth (first second : Request) (old new : Scene) (one other : Got) : Type 0 where
  replied : (replies : BothReplies) → ReplyBoth first second old new replies → one ≡ got_of replies.first → other ≡ got_of replies.second → GetBoth first second old new one other
  -- numbers ran out
  stopped : StopBoth first second old new → one ≡ Err (Client errors.NumbersUsed) → other ≡ Err (Client errors.NumbersUsed) → GetBoth first second old new one other
  -- memory ran out
  starved : one ≡ Err (Client errors.NoMemory) → other ≡ Err (Client errors.NoMemory) → GetBoth first second old new one other

abbrev pub AreGot : (got : Got × Got) → (first second : Request) → (old new : Scene) → Type 0
AreGot got first second old new = GetBoth first second old new got.0 got.1

-- What asking two requests side by side does. `see` is what is seen of a resolver.
pub record QueriesBoth {E C W : Type 0} (see : Stub E C W → Scene) (first second : Request) (old new : Stub E C W) (one other : Got) : Type 0 where
  pub get : GetBoth first second (see old) (see new) one other
  pub count : new.faults ≡ faults_after other (faults_after one old.faults)
  pub lasts : new.failed ≡ (is_want one || is_want other)
  pub options : new.options ≡ old.options

-- Both questions can wait at once: the resolver has not failed, each is answered by one message, and there are two numbers for them.
pub record CanWait {E C W : Type 0} (first second : List ℕ) (s : Stub E C W) : Type 0 where
  pub lasts : s.failed ≡ false
  pub first_formed : is_misformed first ≡ false
  pub second_formed : is_misformed second ≡ false
  pub room : s.client.asked.next < last_count

-- They can't.
pub data MustTakeTurns {E C W : Type 0} (first second : List ℕ) (s : Stub E C W) : Type 0 where
  has_failed : s.failed ≡ true → MustTakeTurns first second s
  first_misformed : is_misformed first ≡ true → MustTakeTurns first second s
  second_misformed : is_misformed second ≡ true → MustTakeTurns first second s
  last_number : s.client.asked.next ≡ last_count → MustTakeTurns first second s

-- Two questions were asked, one after the other.
abbrev pub TakeTurns : {E C W : Type 0} → (Stub E C W → Scene) → (first second : List ℕ) → (old new : Stub E C W) → (one other : Got) → Type 0
TakeTurns {E} {C} {W} see first second old new one other = (between : Stub E C W) × Queries see true first old between one × Queries see true second between new other

-- Two questions were asked: side by side where they can wait at once, and else by turns.
pub data AskBoth {E C W : Type 0} (see : Stub E C W → Scene) (first second : List ℕ) (old new : Stub E C W) (one other : Got) : Type 0 where
  at_once : CanWait first second old → QueriesBoth see (recorded_from first) (recorded_from second) old new one other → AskBoth see first second old new one other
  by_turns : MustTakeTurns first second old → TakeTurns see first second old new one other → AskBoth see first second old new one other
  -- memory ran out for both before they were asked
  no_memory : one ≡ Err (Client errors.NoMemory) → QueriesBoth see (recorded_from first) (recorded_from second) old new one other → AskBoth see first second old new one other

-- The requests of two questions were asked side by side, as a resolver says of such a call.
abbrev pub AsksTogether : {E C W : Type 0} → (Stub E C W → Scene) → Stub E C W → Asking → Asking → Stub E C W → Type 0
AsksTogether see old one other new = QueriesBoth see (recorded_from (question one.name one.rtype.0)) (recorded_from (question other.name other.rtype.0)) old new one.got other.got

-- Two questions were asked, side by side or by turns, which is told to no one.
abbrev pub AsksStubBoth : {E C W : Type 0} → (Stub E C W → Scene) → Stub E C W → Asking → Asking → Stub E C W → Type 0
AsksStubBoth see = AsksBoth (λ old one new. Queries see true (question one.name one.rtype.0) old new one.got) (AsksTogether see) (λ _. None)
