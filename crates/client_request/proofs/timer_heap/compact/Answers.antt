use Rattle.std.proofs.Common.{arith}
use Rattle.client_request.proofs.TimerMoves.{no_more_than_set}
use Rattle.client_request.proofs.timer_heap.compact.Goals as goal

pub returns-then-len-clause-bound : goal.returns-then-len-clause-bound
returns-then-len-clause-bound c = λ once.
    let fewer = no_more_than_set _ _ c.drop_cancelled.ensures.set (c.drop_cancelled.ensures.drops.once once) in
    omega arith
