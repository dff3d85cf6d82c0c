use Rattle.std.proofs.Common.{Some, None}
use Rattle.trace_hits.specs.Serving.{Serve, KnowFailures}
use Rattle.trace_hits.proofs.Never.{all_known}
use Rattle.trace_hits.proofs.Stepping.{begins, goes_on_at, stops_at, ends_at, told_stale}
use Rattle.trace_hits.proofs.stale.first_missed_stale.Goals as goal

pub loop-i-init : goal.loop-i-init
loop-i-init c =
    let cache = c.args.cache.now in
    let failures = c.in_ok-failures.failures in
    begins (Serve cache) (KnowFailures cache failures) cache c.args.rows.now c.new-course.result c.new-course.ensures.point c.new-course.ensures.replies

pub returns-then-branch : goal.returns-then-branch
returns-then-branch c =
    let cache = c.args.cache.now in
    let rows = c.args.rows.now in
    let failures = c.in_ok-failures.failures in
    told_stale c.args.conf.now cache failures rows (Some c.loop-i.i)
    (all_known cache c.args.conf.now c.in_ok-settings.settings failures rows c.in_ok-settings.ensures c.in_ok-failures.ensures)
    (stops_at (Serve cache) (KnowFailures cache failures) cache rows c.loop-i.i c.index-rows-i.result c.loop-i.course c.step.new.course c.in_ok-step.field-0 c.loop-i-test.true c.index-rows-i.is c.if-branch.true c.in_ok-step.ensures c.loop-i.invariant)

pub loop-i-preserved : goal.loop-i-preserved
loop-i-preserved c =
    let cache = c.args.cache.now in
    let failures = c.in_ok-failures.failures in
    goes_on_at (Serve cache) (KnowFailures cache failures) cache c.args.rows.now c.loop-i.i c.index-rows-i.result c.loop-i.course c.step.new.course c.in_ok-step.field-0 c.loop-i-test.true c.index-rows-i.is c.if-branch.false c.in_ok-step.ensures c.loop-i.invariant

pub returns : goal.returns
returns c =
    let cache = c.args.cache.now in
    let rows = c.args.rows.now in
    let failures = c.in_ok-failures.failures in
    told_stale c.args.conf.now cache failures rows None
    (all_known cache c.args.conf.now c.in_ok-settings.settings failures rows c.in_ok-settings.ensures c.in_ok-failures.ensures)
    (ends_at (Serve cache) (KnowFailures cache failures) cache rows c.loop-i.i c.loop-i.course c.loop-i-test.false c.loop-i.invariant)
