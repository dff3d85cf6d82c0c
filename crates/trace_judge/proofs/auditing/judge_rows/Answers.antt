use Rattle.std.proofs.Common.{◌+◌, drop, subst, arith}
use Rattle.trace_judge.specs.Judge.{Judges}
use Rattle.trace_judge.proofs.Listing.{left_at}
use Rattle.trace_judge.proofs.Verdicts.{begins, goes_on, stops, at_row, no_event_at, no_row_at, all_right_at}
use Rattle.trace_judge.proofs.auditing.judge_rows.Goals as goal

pub loop-i-init : goal.loop-i-init
loop-i-init c = begins c.args.rules.now c.args.events.now c.args.rows.now c.new-judge.result c.new-judge.ensures

pub loop-i-preserved : goal.loop-i-preserved
loop-i-preserved c =
    let r = c.args.rules.now in
    let es = c.args.events.now in
    let rows = c.args.rows.now in
    let n = c.loop-i.i in
    let e = c.in-Some.event.now in
    let row = c.index-rows-i.result in
    goes_on r es (drop (n + 1) es) rows (drop (n + 1) rows) n e row c.loop-i.judge c.judge_row.new.self
    (at_row r es rows n e row c.loop-i.judge (left_at n e es c.in-Some.ensures.lookup.3.0 c.in-Some.ensures.lookup.1) (left_at n row rows c.loop-i-test.true c.index-rows-i.is) c.loop-i.invariant)
    (subst (λ o. Judges r e row c.loop-i.judge c.judge_row.new.self o) c.in_default-2.is c.in_ok-clause.ensures)

pub returns-in_default : goal.returns-in_default
returns-in_default c =
    let rows = c.args.rows.now in
    let n = c.loop-i.i in
    let row = c.index-rows-i.result in
    no_event_at c.args.rules.now c.args.events.now rows n row c.loop-i.judge c.in_default.ensures.lookup.3 (left_at n row rows c.loop-i-test.true c.index-rows-i.is) c.loop-i.invariant

pub returns-in-Some-2 : goal.returns-in-Some-2
returns-in-Some-2 c =
    let r = c.args.rules.now in
    let es = c.args.events.now in
    let rows = c.args.rows.now in
    let n = c.loop-i.i in
    let e = c.in-Some.event.now in
    let row = c.index-rows-i.result in
    stops r es (drop (n + 1) es) rows (drop (n + 1) rows) n e row c.loop-i.judge c.judge_row.new.self c.in-Some-2.clause
    (at_row r es rows n e row c.loop-i.judge (left_at n e es c.in-Some.ensures.lookup.3.0 c.in-Some.ensures.lookup.1) (left_at n row rows c.loop-i-test.true c.index-rows-i.is) c.loop-i.invariant)
    (subst (λ o. Judges r e row c.loop-i.judge c.judge_row.new.self o) c.in-Some-2.is c.in_ok-clause.ensures)

pub returns-then-rows-events : goal.returns-then-rows-events
returns-then-rows-events c = no_row_at c.args.rules.now c.args.events.now c.args.rows.now c.loop-i.i c.loop-i.judge (omega (arith, c.loop-i.auto.i-end, c.loop-i-test.false)) c.if-rows-events.true c.loop-i.invariant

pub returns : goal.returns
returns c = all_right_at c.args.rules.now c.args.events.now c.args.rows.now c.loop-i.i c.loop-i.judge c.loop-i-test.false c.if-rows-events.false c.loop-i.invariant
