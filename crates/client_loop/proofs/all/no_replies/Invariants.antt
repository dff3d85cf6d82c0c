use Rattle.std.proofs.Common.{ℕ, None, ◌≡◌}
use Rattle.client_loop.specs.All.{of_each}
use Rattle.client_loop.proofs.all.no_replies.Given as goal

abbrev pub invariant-loop : goal.invariant-loop
invariant-loop l = (number : ℕ) → l.replies.items ≡ of_each (λ k. None) number l.counter
