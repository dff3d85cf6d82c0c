use Rattle.trace_judge.specs.script.Judged.{conf_of}
use Rattle.std.proofs.Common.{refl}
use Rattle.trace_hits.proofs.lemmas.timely.Rows.{if_ok, told, none_is_timely}
use Rattle.trace_audit_run.proofs.timely.audit_timely.Goals as goal

pub returns : goal.returns
returns c =
    let script = c.args.script.now in
    let rows = c.args.trace.now.rows in
    record {
      first = if_ok c.first_untimely.result (λ o f. told script.conf.options.timeout (conf_of script.conf script.transports) rows c.as_slice.result.now o refl c.as_slice.ensures f) c.first_untimely.ensures;
      timely = if_ok c.first_untimely.result (λ o f. none_is_timely (conf_of script.conf script.transports) rows o (told script.conf.options.timeout (conf_of script.conf script.transports) rows c.as_slice.result.now o refl c.as_slice.ensures f)) c.first_untimely.ensures;
    }
