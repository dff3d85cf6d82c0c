use Rattle.std.proofs.Common.{ap, sym}
use Rattle.command_parts.proofs.Delivery.{said_line}
use Rattle.forward_conf.specs.Sentences.{line_of}
use Rattle.forward_conf.proofs.telling.write_cause.Goals as goal

pub returns-in-NumbersUsed-clause-said : goal.returns-in-NumbersUsed-clause-said
returns-in-NumbersUsed-clause-said g c = λ other. said_line _ _ _ _ _ _ (c.end_by-in-NumbersUsed.ensures.said other) (sym (ap line_of c.in-NumbersUsed.is))
