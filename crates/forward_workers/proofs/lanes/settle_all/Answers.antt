use Rattle.std.proofs.Common.{rules, List, ◌≡◌, ◌+◌, ◌∷◌, ◌++◌, [], Ok, ◌∙◌, subst}
use Rattle.front_shared.specs.History.{IsSettled}
use Rattle.front_shared.specs.declared.entry.Item.{Item}
use Rattle.forward_workers.proofs.Sharings.{one_settled}
use Rattle.forward_workers.proofs.lanes.settle_all.Goals as goal

pub loop-next-preserved : goal.loop-next-preserved
loop-next-preserved g c =
    let left : c.loop-next.left.items ≡ c.in-Some.next ∷ c.pop_front.new.self.items = search rules in
    let more : c.in-Some.next.answered ≡ Ok c.in_ok-more.field-0 = search rules in
    let put : c.push.new.self.items ≡ c.loop-next.workers.items ++ c.in-Some.next.lane.own ∷ [] = search rules in
    let sum : c.in-Some-checked_add.sum ≡ c.loop-next.answered + c.in_ok-more.field-0 = search rules in
    record {
      same = c.settle.ensures.same ∙ c.loop-next.invariant.same;
      settled =
          one_settled c.args.closed.now.desk c.args.done.items c.loop-next.left.items c.pop_front.new.self.items c.loop-next.workers.items c.push.new.self.items c.loop-next.answered c.in_ok-more.field-0
          c.in-Some-checked_add.sum c.in-Some.next c.settle.new.pass c.loop-next.invariant.settled left more
          (subst (λ (items : List Item). IsSettled items c.in-Some.next.lane.pass c.settle.new.pass) c.loop-next.invariant.same c.settle.ensures.settled) put sum;
    }
