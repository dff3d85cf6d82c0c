use Rattle.front_steps.proofs.Passing.{passed}
use Rattle.front_steps.proofs.waits.Waits.pass.Goals as goal

pub returns-clause-ok : goal.returns-clause-ok
returns-clause-ok c =
    passed c.args.asker.now c.args.self.now c.forget.new.self c.take_out-none.new.self _ c.in_ok-number.number
    c.in_ok-number.ensures.next c.in_ok-forget.ensures.rise c.in_ok-forget.ensures.in_order c.in_ok-forget.ensures.forgotten c.take_out-none.ensures.left c.self.view_is
