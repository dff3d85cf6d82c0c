use Rattle.std.proofs.Common.{◌≡◌, ◌+◌, ◌∙◌, ap, sym, subst, List, ℕ}
use Rattle.std.proofs.Common.{arith}
use Rattle.std.proofs.lemmas.Grind.{common_steps}
use Rattle.client_request.specs.Timers.{with_timer}
use Rattle.client_request.specs.TimerHeap.{timers_of, IsHeapOf}
use Rattle.client_request.proofs.TimerKept.{set_kept, set_list}
use Rattle.client_request.proofs.timers.Timers.set.Goals as goal

drawn : (c : goal.After-self-1) → c.in-Some.next ≡ c.self.inside.next + 1
drawn c = let e = c.in-Some.ensures in grind (arith, common_steps)

pub invariant_of-self-2 : goal.invariant_of-self-2
invariant_of-self-2 c =
    let told = c.in_ok-add.ensures in
    let next = drawn c in
    let kept = set_kept c.self.inside.next c.args.due _ _ c.add.new.heap.items c.self.invariant told.order told.added in
    subst (λ (n : ℕ). IsHeapOf n c.add.new.table c.add.new.heap.items) (sym next)
    (subst (λ (t : List (ℕ × ℕ)). IsHeapOf (c.self.inside.next + 1) t c.add.new.heap.items) (sym told.table) kept)

pub returns-clause-set : goal.returns-clause-set
returns-clause-set c =
    let told = c.in_ok-add.ensures in
    let next = drawn c in
    let list = ap timers_of told.table ∙ set_list c.self.inside.next c.args.due _ _ c.self.invariant in
    (λ i. record { next = next i; set = list i }) ∙ ap (with_timer c.args.due) c.self.view_is
