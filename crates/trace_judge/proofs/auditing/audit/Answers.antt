use Rattle.trace_judge.specs.Verdict.{first_lane}
use Rattle.trace_judge.specs.script.Judged.{conf_of, settings_of}
use Rattle.trace_judge.proofs.Telling.{if_ok}
use Rattle.trace_judge.proofs.Verdicts.{audited, right_said}
use Rattle.trace_judge.proofs.auditing.audit.Goals as goal

pub returns : goal.returns
returns c =
    let rules = c.in_ok-rules.rules in
    let script = c.args.script.now in
    let conf = conf_of script.conf script.transports in
    let settings = settings_of script.redundant script.cache in
    let es = first_lane script.lanes in
    let rows = c.args.trace.now.rows in
    record {
      verdict = if_ok c.judge_rows.result (λ v i. audited rules.conf conf rules.settings settings c.first_lane.result.now es c.as_slice.result.now rows v c.in_ok-rules.ensures.conf c.in_ok-rules.ensures.settings c.first_lane.ensures c.as_slice.ensures i) c.judge_rows.ensures;
      right = if_ok c.judge_rows.result (λ v i. right_said conf settings es rows v (audited rules.conf conf rules.settings settings c.first_lane.result.now es c.as_slice.result.now rows v c.in_ok-rules.ensures.conf c.in_ok-rules.ensures.settings c.first_lane.ensures c.as_slice.ensures i)) c.judge_rows.ensures;
    }
