use Rattle.std.proofs.Common.{ap, sym, ◌∙◌, arith}
use Rattle.command_parts.proofs.Delivery.{said_line}
use Rattle.dns_lookup_run.specs.Sentences.{conf_text, refused_text}
use Rattle.dns_lookup_run.proofs.telling.tell_conf.Goals as goal

pub returns-in-Silent-clause-said : goal.returns-in-Silent-clause-said
returns-in-Silent-clause-said g c = λ three. said_line _ _ _ _ _ _ (c.end_by.ensures.said (omega arith)) (sym (ap conf_text c.in-Silent.is))

pub returns-in-Ok-clause-said : goal.returns-in-Ok-clause-said
returns-in-Ok-clause-said g c = λ three.
    said_line _ _ _ _ _ _ (c.end_by-in-Ok.ensures.said (omega arith))
    (c.deref-in-Ok.ensures.value ∙ c.in-Ok.ensures ∙ ap refused_text c.deref.ensures.value ∙ sym (ap conf_text c.in-Says.is))
