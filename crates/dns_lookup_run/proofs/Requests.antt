-- A request that was asked is the one of its ask.
use Rattle.std.proofs.Common.{◌≡◌, ℕ, List, subst}
use Rattle.client_loop.specs.Asking.{IsAnswered, Scene, StopsForNumbers}
use Rattle.client_request.specs.Request.{Request}
use Rattle.client_request.specs.declared.event.Row.{Row}
use Rattle.dns_record.specs.Asking.{IsAnsweredAnd}
use Rattle.dns_lookup_run.specs.Asking.{Answer, Gave, Stopped, request_for}
use Rattle.dns_lookup_words.specs.declared.manner.Ask.{Ask}

pub gave : (ask : Ask) (n : ℕ) (answer : Answer) (old new : Scene) (request : Request) → request ≡ request_for ask
    → (Holds : List Row → Type 0) → IsAnsweredAnd Holds n 1000000 request answer old new → Gave ask n answer old new
gave ask n answer old new request is Holds h = subst (λ (r : Request). IsAnswered n 1000000 r old new answer) is h.answered

pub gave_and : (ask : Ask) (n : ℕ) (answer : Answer) (old new : Scene) (request : Request) → request ≡ request_for ask
    → (Holds : List Row → Type 0) → IsAnsweredAnd Holds n 1000000 request answer old new → IsAnsweredAnd Holds n 1000000 (request_for ask) answer old new
gave_and ask n answer old new request is Holds h = subst (λ (r : Request). IsAnsweredAnd Holds n 1000000 r answer old new) is h

pub stopped : (ask : Ask) (old new : Scene) (request : Request) → request ≡ request_for ask
    → StopsForNumbers request old new → Stopped ask old new
stopped ask old new request is h = subst (λ (r : Request). StopsForNumbers r old new) is h
