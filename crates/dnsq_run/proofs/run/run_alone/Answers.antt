use Rattle.std.proofs.Common.{sym, ◌∙◌}
use Rattle.dnsq_run.proofs.Delivery.{line_left, other_left, refusal_said}
use Rattle.dnsq_run.proofs.Outcomes.{all_delivered, only_refused}
use Rattle.dnsq_run.proofs.run.run_alone.Goals as goal

pub returns-in-Ok-clause-done : goal.returns-in-Ok-clause-done
returns-in-Ok-clause-done g c =
    all_delivered _ c.in-Some.command _ _ _ _ c.in-Ok.text.items c.deliver.result.0 (sym c.in-Some.ensures.command) c.in-Ok.ensures.done (rw c.deref.ensures.value at c.deliver.ensures.done)

pub returns-in-Ok-say-clause-refused : goal.returns-in-Ok-say-clause-refused
returns-in-Ok-say-clause-refused g c =
    λ is_one. refusal_said _ c.in-Some.command _ _ _ _ _ c.in-Err-Says.line.items (sym c.in-Some.ensures.command) ((rw c.in-Err-Says.field-0-is at c.in-Err-Says.ensures.refused) is_one) (rw c.deref-in-Err-Says.ensures.value at c.in-Ok-say.ensures.said)

pub returns-in-Ok-say-clause-complete : goal.returns-in-Ok-say-clause-complete
returns-in-Ok-say-clause-complete g c =
    only_refused c.input_laws.ensures _ c.in-Some.command _ c.in-Err-Says.line.items c.in-Err-Says.status.0 (sym c.in-Some.ensures.command) (rw c.in-Err-Says.field-0-is at c.in-Err-Says.ensures.refused)

pub returns-clause-memory : goal.returns-clause-memory
returns-clause-memory g c =
    λ is_six. (line_left _ _ _ c.in-Some.command _ _ _ c.in-Err-Says.line.items c.in-Err-Says.status.0 (sym c.in-Some.ensures.command) (rw c.in-Err-Says.field-0-is at c.in-Err-Says.ensures.early) (rw c.in-Err-Says.field-0-is at c.in-Err-Says.ensures.refused) (rw c.in-Err-Says.field-0-is at c.in-Err-Says.ensures.numbers) (rw c.in-Err-Says.field-0-is at c.in-Err-Says.ensures.numbers_line) (rw c.deref-in-Err-Says.ensures.value at c.say.ensures.begun))

pub returns-in-None-clause-memory : goal.returns-in-None-clause-memory
returns-in-None-clause-memory g c = λ is_six. other_left _ _ _ _ _ _ (sym c.command_of.ensures.command ∙ c.in_default.is) (sym c.count_of.ensures.count ∙ c.in-None.is) (c.run_other.ensures.memory is_six)
