use Rattle.dns_script.proofs.OneTrace.{text_reads_back, trace_is_one, trace_is_refused_once, trace_is_taken}
use Rattle.dns_script.proofs.PrintedTexts.{text_is_read}
use Rattle.dns_script.proofs.Ranges.{read_is_in_range}
use Rattle.dns_script.proofs.TakenTexts.{read_is_text}
use Rattle.dns_script.proofs.laws.text_laws.Goals as goal

pub returns : goal.returns
returns c = record {
  read_is_text = read_is_text;
  read_is_in_range = read_is_in_range;
  text_is_read = text_is_read;
  text_reads_back = text_reads_back;
  trace_is_one = trace_is_one;
  trace_is_taken = trace_is_taken;
  trace_is_refused_once = trace_is_refused_once;
}
