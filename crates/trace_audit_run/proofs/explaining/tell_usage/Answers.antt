use Rattle.std.proofs.Common.{◌∙◌}
use Rattle.trace_audit_run.specs.{Lines.usage_line, Sentences.usage_sentence}
use Rattle.trace_audit_run.proofs.Answering.{usage_is_said}
use Rattle.trace_audit_run.proofs.explaining.tell_usage.Goals as goal

pub returns-in-Ok-say-clause-said : goal.returns-in-Ok-say-clause-said
returns-in-Ok-say-clause-said g c = usage_is_said usage_line _ c.end_by.result.0 _ _ _ _ c.as_bytes.ensures.value (λ _. c.in-Ok-say.ensures.said)

pub returns-in-Ok-say-clause-told : goal.returns-in-Ok-say-clause-told
returns-in-Ok-say-clause-told g c =
    usage_is_said (usage_sentence c.args.names.now) _ c.end_by.result.0 _ _ _ _ (c.as_bytes-in-Ok-say.ensures.value ∙ c.in-Ok.ensures) c.end_by.ensures.said
