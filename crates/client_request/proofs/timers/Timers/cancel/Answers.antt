use Rattle.std.proofs.Common.{◌≡◌, ◌+◌, ◌*◌, ◌≤◌, ◌∙◌, ap, sym, subst, arith, false, length, List, ℕ}
use Rattle.client_request.specs.Timers.{cancelled}
use Rattle.client_request.specs.TimerHeap.{timers_of, top_is_cancelled, DropsCancelled, IsHeapOf}
use Rattle.client_request.proofs.TimerKept.{cancel_kept}
use Rattle.client_request.proofs.TimerMoves.{drops_more}
use Rattle.client_request.proofs.TimerTable.{timers_of-frees}
use Rattle.client_request.proofs.timers.Timers.cancel.Goals as goal

pub invariant_of-self : goal.invariant_of-self
invariant_of-self c =
    let left = c.remove.ensures.entries in
    let old = c.self.inside.heap.items in
    let between = c.compact.new.heap.items in
    let heap = c.settle.new.heap.items in
    let drops : DropsCancelled c.remove.new.self old heap = drops_more _ _ _ _ c.compact.ensures.drops c.settle.ensures.drops in
    let before = c.compact.ensures.bound c.self.invariant.once in
    let fewer = c.settle.ensures.drops.fewer in
    let bound : length heap ≤ 2 * length c.remove.new.self + 16 = omega arith in
    subst (λ (t : List (ℕ × ℕ)). IsHeapOf c.self.inside.next t heap) (sym left)
    (cancel_kept _ c.args.id.0 _ _ heap c.self.invariant
    (subst (λ (t : List (ℕ × ℕ)). DropsCancelled t old heap) left drops)
    (subst (λ (t : List (ℕ × ℕ)). top_is_cancelled t heap ≡ false) left c.settle.ensures.top)
    (subst (λ (t : List (ℕ × ℕ)). length heap ≤ 2 * length t + 16) left bound))

pub returns : goal.returns
returns c =
    let is = ap timers_of c.remove.ensures.entries ∙ timers_of-frees c.args.id.0 c.self.inside.table in
    (λ i. record { next = c.self.inside.next; set = is i }) ∙ ap (cancelled c.args.id.0) c.self.view_is
