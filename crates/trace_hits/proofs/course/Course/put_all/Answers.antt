use Rattle.trace_hits.proofs.Stepping.{puts_begin, puts_more_at, puts_end_at}
use Rattle.trace_hits.proofs.course.Course.put_all.Goals as goal

pub loop-out-init : goal.loop-out-init
loop-out-init c = puts_begin c.args.cache.now c.args.outs.now c.args.self.now

pub loop-out-preserved : goal.loop-out-preserved
loop-out-preserved c =
    puts_more_at c.args.cache.now c.args.outs.now c.loop-out.out-index c.out-item.result c.args.self.now c.loop-out.self c.put.new.self c.loop-out-test.true c.out-item.is c.loop-out.invariant c.in_ok-put.ensures

pub returns : goal.returns
returns c = puts_end_at c.args.cache.now c.args.outs.now c.loop-out.out-index c.args.self.now c.loop-out.self c.loop-out-test.false c.loop-out.invariant
