use Rattle.std.proofs.Common.{Some, None}
use Rattle.trace_hits.specs.Row.{Hit, Whatever}
use Rattle.trace_hits.proofs.Stepping.{goes_on_at, stops_at, ends_at, told_hit}
use Rattle.trace_hits.proofs.hits.first_missed_hit.Goals as goal

pub returns-then-branch : goal.returns-then-branch
returns-then-branch c =
    let cache = c.args.cache.now in
    let rows = c.args.rows.now in
    told_hit cache rows (Some c.loop-i.i)
    (stops_at (Hit cache) Whatever cache rows c.loop-i.i c.index-rows-i.result c.loop-i.course c.step.new.course c.in_ok-step.field-0 c.loop-i-test.true c.index-rows-i.is c.if-branch.true c.in_ok-step.ensures c.loop-i.invariant)

pub loop-i-preserved : goal.loop-i-preserved
loop-i-preserved c =
    let cache = c.args.cache.now in
    goes_on_at (Hit cache) Whatever cache c.args.rows.now c.loop-i.i c.index-rows-i.result c.loop-i.course c.step.new.course c.in_ok-step.field-0 c.loop-i-test.true c.index-rows-i.is c.if-branch.false c.in_ok-step.ensures c.loop-i.invariant

pub returns : goal.returns
returns c =
    let cache = c.args.cache.now in
    told_hit cache c.args.rows.now None (ends_at (Hit cache) Whatever cache c.args.rows.now c.loop-i.i c.loop-i.course c.loop-i-test.false c.loop-i.invariant)
