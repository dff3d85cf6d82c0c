use Rattle.proof_right.proofs.worked.Names.{named_again_is_right}
use Rattle.proof_right.proofs.examples.worked_names.Goals as goal

pub returns : goal.returns
returns c = named_again_is_right
