use Rattle.std.proofs.Common.{◌≡◌, ◌∷◌, [], rules}
use Rattle.listener_peers.proofs.Batching.{sends_next, sends_none}
use Rattle.listener_peers.proofs.batch.send_all.Goals as goal

pub loop-next-init : goal.loop-next-init
loop-next-init g c = λ posts sent. sent

pub loop-next-preserved : goal.loop-next-preserved
loop-next-preserved g c = λ posts sent.
    let first : c.loop-next.unsent.items ≡ c.in-Some.next ∷ c.pop_front.new.self.items = search rules in
    c.loop-next.invariant posts (sends_next c.loop-next.unsent.items c.pop_front.new.self.items c.in-Some.next c.in_ok-send.field-0 _ _ posts first c.in_ok-send.ensures.posts sent)

pub returns-clause-sent : goal.returns-clause-sent
returns-clause-sent g c =
    let none : c.loop-next.unsent.items ≡ [] = search rules in
    c.loop-next.invariant _ (sends_none c.loop-next.unsent.items _ none)
