-- The text is read back as the rows that it was printed of.
use Rattle.std.proofs.Common.{◌≡◌, arith}
use Rattle.std.proofs.lemmas.Grind.{common_steps}
use Rattle.dns_script.specs.TraceText.{trace_text_of}
use Rattle.dns_script.proofs.PrintedTexts.{printed_is_read}
use Rattle.dns_script.proofs.printing.trace_text.Goals as goal

pub returns-clause-back : goal.returns-clause-back
returns-clause-back c =
    let printed : c.end_trace.new.text.items ≡ trace_text_of c.args.t.now.rows = grind (arith, common_steps) in
    printed_is_read c.end_trace.new.text.items c.args.t.now.rows c.trace_is_in_range.ensures printed
