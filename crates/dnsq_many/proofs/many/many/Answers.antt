use Rattle.dnsq_many.proofs.Outcomes.{refused_source, all_made, all_stopped}
use Rattle.dnsq_many.proofs.many.many.Goals as goal

pub returns-in-Ok-clause-done : goal.returns-in-Ok-clause-done
returns-in-Ok-clause-done g c =
    all_made _ _ _ c.in-Ok.script c.text_of.result c.in_ok-text.ensures.whole c.in_ok-text.ensures.fits (rw c.deref.ensures.value at c.in-Ok.ensures.script) c.text_of.ensures.made

pub returns-in-Ok-clause-numbers : goal.returns-in-Ok-clause-numbers
returns-in-Ok-clause-numbers g c =
    all_stopped _ _ _ c.in-Ok.script c.text_of.result c.in_ok-text.ensures.whole c.in_ok-text.ensures.fits (rw c.deref.ensures.value at c.in-Ok.ensures.script) c.text_of.ensures.numbers

pub returns-clause-refused : goal.returns-clause-refused
returns-clause-refused g c =
    refused_source _ _ _ c.in-Err.ending c.in_ok-text.ensures.whole c.in_ok-text.ensures.fits (rw c.deref.ensures.value at c.in-Err.ensures.refused)
