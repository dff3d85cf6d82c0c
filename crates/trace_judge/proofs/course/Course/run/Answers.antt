use Rattle.std.proofs.Common.{◌+◌, drop, sym, subst}
use Rattle.trace_judge.proofs.Listing.{left_at, none_left}
use Rattle.trace_judge.proofs.Stepping.{Amid, begins, goes_on, ends}
use Rattle.trace_judge.proofs.course.Course.run.Goals as goal

pub loop-out-init : goal.loop-out-init
loop-out-init c = begins c.args.case.now c.args.outs.now c.args.self.now

pub loop-out-preserved : goal.loop-out-preserved
loop-out-preserved c =
    let p = c.args.case.now in
    let os = c.args.outs.now in
    let n = c.loop-out.out-index in
    subst (λ k. Amid p os (drop (n + 1) os) c.args.self.now c.step.new.self k) (sym c.both-kept.ensures)
    (goes_on p os (drop (n + 1) os) c.out-item.result c.args.self.now c.loop-out.self c.step.new.self c.loop-out.kept c.in_ok-its.its
    (subst (λ rest. Amid p os rest c.args.self.now c.loop-out.self c.loop-out.kept) (left_at n c.out-item.result os c.loop-out-test.true c.out-item.is) c.loop-out.invariant) c.in_ok-its.ensures)

pub returns : goal.returns
returns c =
    let p = c.args.case.now in
    let os = c.args.outs.now in
    ends p os c.args.self.now c.loop-out.self c.loop-out.kept
    (subst (λ rest. Amid p os rest c.args.self.now c.loop-out.self c.loop-out.kept) (none_left c.loop-out.out-index os c.loop-out-test.false) c.loop-out.invariant)
