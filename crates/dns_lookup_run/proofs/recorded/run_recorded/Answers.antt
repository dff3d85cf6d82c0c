use Rattle.dns_lookup_run.specs.Recorded.{asked}
use Rattle.dns_lookup_run.proofs.Records.{conf_ends, flushed_later, of_recorded, refused_ends}
use Rattle.dns_lookup_run.proofs.Runs.{refusal_told, why_none}
use Rattle.dns_lookup_run.proofs.recorded.run_recorded.Goals as goal

pub returns-in-Err-Refused-clause-ends : goal.returns-in-Err-Refused-clause-ends
returns-in-Err-Refused-clause-ends g c =
    rw c.without.ensures (refused_ends _ _ _ _ _ _ _ _ _ _ _ _ _ c.in-Err-Refused.refusal (rw c.in-Err-Refused.field-0-is at c.in-Err-Refused.ensures.judged) c.tell_refusal.ensures.status)

pub returns-in-Err-clause-ends : goal.returns-in-Err-clause-ends
returns-in-Err-clause-ends g c =
    rw c.without-in-Err.ensures (conf_ends _ _ _ _ _ _ _ _ _ _ _ _ _ c.in-Ok.lookup c.in-Ok.ensures.judged c.tell_conf.ensures.status)

pub returns-in-Ok-tell_notes-clause-statuses : goal.returns-in-Ok-tell_notes-clause-statuses
returns-in-Ok-tell_notes-clause-statuses g c = of_recorded c.ask_recorded.result.status.0 c.ask_recorded.ensures.statuses

pub returns-in-Ok-tell_notes-clause-ends : goal.returns-in-Ok-tell_notes-clause-ends
returns-in-Ok-tell_notes-clause-ends g c =
    asked c.in-Ok.lookup c.in-Ok-conf_of.found _ c.tell_notes.new.errors c.in-Ok.ensures.judged c.in-Ok-conf_of.ensures.conf (rw c.as_slice.ensures at c.in-Ok-tell_notes.ensures.said) c.ask_recorded.ensures.ends

pub returns-in-Err-Refused-clause-usage : goal.returns-in-Err-Refused-clause-usage
returns-in-Err-Refused-clause-usage g c =
    rw c.without.ensures (λ two. refusal_told _ _ _ _ _ _ (rw c.in-Err-Refused.field-0-is at c.in-Err-Refused.ensures.judged) (c.tell_refusal.ensures.said two))

pub returns-in-Err-clause-no_conf : goal.returns-in-Err-clause-no_conf
returns-in-Err-clause-no_conf g c =
    rw c.without-in-Err.ensures (λ three. why_none _ _ _ _ c.in-Err.ending c.in-Err.ensures.early c.in-Err.ensures.no_numbers (c.tell_conf.ensures.cause three) c.in-Err.ensures.source_fault c.in-Err.ensures.too_long
    (c.tell_conf.ensures.said three))

pub returns-in-Ok-tell_notes-clause-line_flushed : goal.returns-in-Ok-tell_notes-clause-line_flushed
returns-in-Ok-tell_notes-clause-line_flushed g c = λ why. flushed_later _ _ _ _ c.tell_notes.ensures.count (c.ask_recorded.ensures.line_flushed why)
