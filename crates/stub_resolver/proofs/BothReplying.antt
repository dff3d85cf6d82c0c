-- What two requests get that are asked side by side.
use Rattle.std.proofs.Common.{◌≡◌, ◌≤◌, ℕ, inl, None, Ok, Err, refl, subst, sym}
use Rattle.std.specs.Prelude.{IsErrOf, OnErr}
use Rattle.dns_names.specs.Name.{Labels}
use Rattle.dns_values.specs.Source.{Rose}
use Rattle.client_request.specs.Request.{Request}
use Rattle.client_request.specs.Response.{IsRefusal}
use Rattle.client_request.specs.declared.error.Error.{Error}
use Rattle.client_request.specs.declared.error.Error.TheVariants as errors
use Rattle.client_loop.specs.Asking.{Scene}
use Rattle.client_loop.specs.declared.both.BothReplies.{BothReplies}
use Rattle.resolv_lookup.specs.Asked.{Got, asking, in_turn, octets_in, side_by_side}
use Rattle.resolv_lookup.specs.declared.fault.QueryFault.TheVariants.{Client}
use Rattle.resolv_lookup.proofs.Counting.{rises}
use Rattle.stub_resolver.specs.Both.{AskBoth, AsksStubBoth, GetBoth, StopBoth, StopAgain, at_once, by_turns, no_memory, starved, stopped}
use Rattle.stub_resolver.specs.Queries.{question}
use Rattle.stub_resolver.specs.Stub.{Stub}

-- copies of requests are those
pub of_copies : (first second one other : Request) (early : BothReplies) (old new : Scene) → one ≡ first → other ≡ second → StopAgain one other early old new → StopAgain first second early old new
of_copies first second one other early old new a b h = subst (λ (q : Request). StopAgain first q early old new) b (subst (λ (q : Request). StopAgain q other early old new) a h)

-- the client refused
pub both_refused : (first second : Request) (old new : Scene) (error : Error) → IsRefusal error → (IsErrOf {T = BothReplies} (Err error) errors.NumbersUsed → StopBoth first second old new)
    → (IsErrOf {T = BothReplies} (Err error) errors.Failed → ⊥) → GetBoth first second old new (Err (Client error)) (Err (Client error))
both_refused first second old new errors.NoMemory is numbers failed = starved refl refl
both_refused first second old new errors.NumbersUsed is numbers failed = stopped (numbers refl) refl refl
both_refused first second old new errors.Failed is numbers failed = absurd (failed refl)
both_refused first second old new _ is numbers failed = absurd is

-- an answer's octets are it
pub octets_same : (got : Got) → octets_in (λ a. a) got ≡ got
octets_same (Ok octets) = refl
octets_same (Err fault) = refl

told_both : {E C W : Type 0} (see : Stub E C W → Scene) (name : Labels) (first second : ℕ) (old new : Stub E C W) (one other : Got) → AskBoth see (question name first) (question name second) old new one other
    → AsksStubBoth see old (asking name first one) (asking name second other) new
told_both see name first second old new one other (at_once can q) = side_by_side q (None, inl refl, inl refl)
told_both see name first second old new one other (by_turns must turns) = in_turn (turns.0, (turns.1, inl refl), (new, (turns.2, inl refl), refl))
told_both see name first second old new one other (no_memory is q) = side_by_side q (None, inl refl, inl refl)

-- what a resolver says of two questions
pub asks_both : {E C W : Type 0} (see : Stub E C W → Scene) (name : Labels) (first second : ℕ) (old new : Stub E C W) (one other : Got) → AskBoth see (question name first) (question name second) old new one other
    → AsksStubBoth see old (asking name first (octets_in (λ a. a) one)) (asking name second (octets_in (λ a. a) other)) new
asks_both see name first second old new one other h =
    subst (λ (x : Got). AsksStubBoth see old (asking name first x) (asking name second (octets_in (λ a. a) other)) new) (sym (octets_same one))
    (subst (λ (x : Got). AsksStubBoth see old (asking name first one) (asking name second x) new) (sym (octets_same other)) (told_both see name first second old new one other h))

-- a count that stood still or rose, and rose then, rose
pub rose_then : (got : Got) (old middle new : ℕ) → old ≤ middle → OnErr got (Rose middle new) → OnErr got (Rose old new)
rose_then (Ok octets) old middle new le rose = rose
rose_then (Err fault) old middle new le rose = rises old middle new le rose
