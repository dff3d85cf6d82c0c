use Rattle.dns_lookup_run.proofs.Records.{flushed_later}
use Rattle.dns_lookup_run.proofs.Runs.{asked_ends, conf_ends, refused_ends, refusal_told, why_none}
use Rattle.dns_lookup_run.proofs.program.run.Goals as goal

pub returns-in-Err-Refused-clause-ends : goal.returns-in-Err-Refused-clause-ends
returns-in-Err-Refused-clause-ends g c =
    refused_ends _ _ _ _ _ _ _ _ _ c.in-Err-Refused.refusal (rw c.in-Err-Refused.field-0-is at c.in-Err-Refused.ensures.judged) c.tell_refusal.ensures.status

pub returns-in-Err-Refused-clause-usage : goal.returns-in-Err-Refused-clause-usage
returns-in-Err-Refused-clause-usage g c = λ two. refusal_told _ _ _ _ _ _ (rw c.in-Err-Refused.field-0-is at c.in-Err-Refused.ensures.judged) (c.tell_refusal.ensures.said two)

pub returns-in-Err-clause-ends : goal.returns-in-Err-clause-ends
returns-in-Err-clause-ends g c = conf_ends _ _ _ _ _ _ _ _ _ c.in-Ok.lookup c.in-Ok.ensures.judged c.tell_conf.ensures.status

pub returns-in-Err-clause-no_conf : goal.returns-in-Err-clause-no_conf
returns-in-Err-clause-no_conf g c = λ three.
    why_none _ _ _ _ c.in-Err.ending c.in-Err.ensures.early c.in-Err.ensures.no_numbers (c.tell_conf.ensures.cause three) c.in-Err.ensures.source_fault c.in-Err.ensures.too_long
    (c.tell_conf.ensures.said three)

pub returns-in-Ok-tell_notes-clause-ends : goal.returns-in-Ok-tell_notes-clause-ends
returns-in-Ok-tell_notes-clause-ends g c =
    asked_ends _ _ _ _ _ _ _ _ _ c.in-Ok.lookup c.in-Ok-conf_of.found _ c.tell_notes.new.errors c.in-Ok.ensures.judged c.in-Ok-conf_of.ensures.conf
    (rw c.as_slice.ensures at c.in-Ok-tell_notes.ensures.said) c.ask_all.ensures.statuses c.ask_all.ensures.ends c.ask_all.ensures.quiet c.ask_all.ensures.unwritten c.ask_all.ensures.stops

pub returns-in-Ok-tell_notes-clause-line_flushed : goal.returns-in-Ok-tell_notes-clause-line_flushed
returns-in-Ok-tell_notes-clause-line_flushed g c = λ why. flushed_later _ _ _ _ c.tell_notes.ensures.count (c.ask_all.ensures.line_flushed why)
