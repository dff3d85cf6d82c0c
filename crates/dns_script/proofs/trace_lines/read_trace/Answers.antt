-- A line is refused, or the trace does not end.
use Rattle.dns_script.specs.TraceReading.{with_line}
use Rattle.std.proofs.lemmas.Bool.{iff_false}
use Rattle.dns_script.proofs.Outcomes.{refused}
use Rattle.dns_script.proofs.TraceLoop.{trace_has_tail, trace_line_refused, trace_not_ended, trace_read}
use Rattle.dns_script.proofs.OneTrace.{none_left, reads_back_of}
use Rattle.dns_script.proofs.Ranges.{read_is_in_range}
use Rattle.dns_script.proofs.TakenTexts.{read_is_text}
use Rattle.std.proofs.Common.{◌+◌, Ok, Err}
use Rattle.dns_script.specs.TraceReading.{IsTrace, RefusesTraceLine}
use Rattle.dns_script.specs.declared.script.ScriptFault.TheVariants as faults
use Rattle.dns_script.proofs.trace_lines.read_trace.Goals as goal

pub returns-in-Err-Refused : goal.returns-in-Err-Refused
returns-in-Err-Refused c =
    let refusal : RefusesTraceLine c.args.text.now (c.loop-line.count + 1) =
    trace_line_refused c.args.text.now c.loop-line.rest.now c.in-Some.behind.now c.in-Some.line.now c.loop-line.count c.loop-line.reader c.loop-line.invariant c.in-Some.ensures.parts
    (refused c.in-Err-Refused.field-0 c.line.new.self (with_line c.in-Some.line.now c.loop-line.reader) c.in-Err-Refused.field-0-is c.in-Err-Refused.ensures) in
    record { reads = refusal; text = tt; in_range = tt; back = reads_back_of c.args.text.now (Err (faults.Line (c.loop-line.count + 1))) refusal }

pub returns-then-rest-ne0 : goal.returns-then-rest-ne0
returns-then-rest-ne0 c =
    let refusal : RefusesTraceLine c.args.text.now (c.loop-line.count + 1) =
    trace_has_tail c.args.text.now c.loop-line.rest.now c.loop-line.count c.loop-line.reader c.loop-line.invariant c.in_default.ensures.parts c.if-rest-ne0.true in
    record { reads = refusal; text = tt; in_range = tt; back = reads_back_of c.args.text.now (Err (faults.Line (c.loop-line.count + 1))) refusal }

pub returns-then-not-has_ended : goal.returns-then-not-has_ended
returns-then-not-has_ended c =
    let refusal : RefusesTraceLine c.args.text.now (c.loop-line.count + 1) =
    trace_not_ended c.args.text.now c.loop-line.rest.now c.loop-line.count c.loop-line.reader c.loop-line.invariant c.in_default.ensures.parts (iff_false c.has_ended.ensures c.if-not-has_ended.true) in
    record { reads = refusal; text = tt; in_range = tt; back = reads_back_of c.args.text.now (Err (faults.Line (c.loop-line.count + 1))) refusal }

pub returns : goal.returns
returns c =
    let trace : IsTrace c.args.text.now c.loop-line.reader.rows =
    trace_read c.args.text.now c.loop-line.rest.now c.loop-line.count c.loop-line.reader c.loop-line.invariant c.in_default.ensures.parts
    (c.has_ended.ensures.0 c.if-not-has_ended.false) (none_left c.loop-line.rest.now c.if-rest-ne0.false) in
    record {
      reads = trace;
      text = read_is_text c.args.text.now c.loop-line.reader.rows trace;
      in_range = read_is_in_range c.args.text.now c.loop-line.reader.rows trace;
      back = reads_back_of c.args.text.now (Ok (record { rows = c.loop-line.reader.rows })) trace;
    }
