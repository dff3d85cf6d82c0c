use Rattle.std.proofs.Common.{ℕ, ◌≡◌, ◌+◌, List, [], ◌∷◌, ◌++◌, Option, None, Result, refl, ap, sym, ◌∙◌, arith}
use Rattle.client_request.specs.declared.error.Error.{Error}
use Rattle.client_loop.specs.All.{of_each}
use Rattle.client_loop.proofs.AllReplies.{nones_more}
use Rattle.client_loop.proofs.all.no_replies.Goals as goal

pub loop-preserved : goal.loop-preserved
loop-preserved c = λ number.
    c.in_ok-push.ensures.items
    ∙ ap (λ (rs : List (Option (Result (List ℕ) Error))). rs ++ None ∷ []) (c.loop.invariant number)
    ∙ sym (nones_more number c.loop.counter (c.loop.counter + 1) refl)

pub returns : goal.returns
returns c =
    let most = c.loop.auto.counter-end in
    let least = c.loop-test.false in
    let all : c.loop.counter ≡ c.args.count = omega arith in
    λ number. c.loop.invariant number ∙ ap (λ (n : ℕ). of_each (λ k. None) number n) all
