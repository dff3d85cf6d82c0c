use Rattle.std.proofs.Common.{ap, ◌∙◌}
use Rattle.dns_script.specs.Summary.{summary_text_of}
use Rattle.dnsq_run.proofs.Generations.{sums_up}
use Rattle.dnsq_run.proofs.generating.summary.Goals as goal

pub returns-clause-summary : goal.returns-clause-summary
returns-clause-summary c =
    let played = c.in_ok-play.ensures.played in
    sums_up c.args.n c.in_ok-script.script played.0 c.in_ok-summary_text.field-0.items c.in_ok-script.ensures played.1 (c.in_ok-summary_text.ensures ∙ ap summary_text_of played.2)
