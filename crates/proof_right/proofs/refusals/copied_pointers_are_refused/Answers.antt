-- The name in the data differs from that of the message that came.
use Rattle.proof_right.proofs.wrong.Names.{not_renamed}
use Rattle.proof_right.proofs.refusals.copied_pointers_are_refused.Goals as goal

pub returns : goal.returns
returns c = not_renamed
