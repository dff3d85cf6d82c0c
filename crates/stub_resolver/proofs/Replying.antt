-- What a request gets, and what a query makes of it.
use Rattle.std.proofs.Common.{◌≡◌, ℕ, ◌&&◌, Bool, true, false, List, Result, Ok, Err, refl, subst}
use Rattle.std.specs.Prelude.{◌↔◌, IfOk, IsErrOf, IsTrue}
use Rattle.client_request.specs.Request.{Request, is_misformed, recorded_from}
use Rattle.client_request.specs.Response.{IsRefusal}
use Rattle.client_request.specs.declared.error.Error.{Error}
use Rattle.client_request.specs.declared.error.Error.TheVariants as errors
use Rattle.client_loop.specs.Asking.{Scene, StopsForNumbers}
use Rattle.resolv_lookup.specs.Asked.{Got}
use Rattle.resolv_lookup.specs.declared.fault.QueryFault.TheVariants.{Client}
use Rattle.stub_resolver.specs.Queries.{Answers, Gets, Replies, Reply, Stops, at_second, got_of, is_formerr, replied, starved, stopped, twice}

-- the last of two replies
pub asked_again : (again : Bool) (request copy : Request) (old between new : Scene) (first : Reply) (r : Result Reply Error) → again ≡ true → is_formerr first ≡ true → copy ≡ request
    → Answers request old between first → IfOk r (Answers copy between new) → IfOk r (Replies again request old new)
asked_again again request copy old between new first (Ok reply) on formerr same one two =
    let both : (again && is_formerr first) ≡ true = cc in
    twice between first both one (subst (λ (q : Request). Answers q between new reply) same two)
asked_again again request copy old between new first (Err error) on formerr same one two = two

-- numbers ran out at the second one
pub stops_again : (again : Bool) (request copy : Request) (old between new : Scene) (first : Reply) → again ≡ true → is_formerr first ≡ true → copy ≡ request
    → Answers request old between first → StopsForNumbers copy between new → Stops again request old new
stops_again again request copy old between new first on formerr same one two =
    let both : (again && is_formerr first) ≡ true = cc in
    at_second between first both one (subst (λ (q : Request). StopsForNumbers q between new) same two)

-- a message that a request was made of is well formed
well_formed : (message : List ℕ) (request : Request) → (IsErrOf {T = Request} (Ok request) errors.FormError ↔ IsTrue (is_misformed message)) → is_misformed message ≡ false
well_formed message request iff = by (is_misformed message) iff.1
  where
    by : (b : Bool) → (IsTrue b → IsErrOf {T = Request} (Ok request) errors.FormError) → b ≡ false
    by false f = refl
    by true f = absurd (let h : Ok request ≡ Err errors.FormError = f refl in cc)

module _ (again : Bool) (message : List ℕ) (request : Request) (old new : Scene) where
  -- the client replied
  pub gets_reply : (reply : Reply) (got : Got) → request ≡ recorded_from message → (IsErrOf {T = Request} (Ok request) errors.FormError ↔ IsTrue (is_misformed message))
      → Replies again request old new reply → got ≡ got_of reply → Gets again message old new got
  gets_reply reply got made iff replies is = replied (well_formed message request iff) reply (subst (λ (q : Request). Replies again q old new reply) made replies) is

  -- the client refused
  pub gets_refusal : (error : Error) → request ≡ recorded_from message → (IsErrOf {T = Request} (Ok request) errors.FormError ↔ IsTrue (is_misformed message))
      → IsRefusal error → (IsErrOf {T = Reply} (Err error) errors.NumbersUsed → Stops again request old new) → (IsErrOf {T = Reply} (Err error) errors.Failed → ⊥)
      → Gets again message old new (Err (Client error))
  gets_refusal errors.NoMemory made iff is numbers failed = starved refl
  gets_refusal errors.NumbersUsed made iff is numbers failed = stopped (well_formed message request iff) (subst (λ (q : Request). Stops again q old new) made (numbers refl)) refl
  gets_refusal errors.Failed made iff is numbers failed = absurd (failed refl)
  gets_refusal _ made iff is numbers failed = absurd is
