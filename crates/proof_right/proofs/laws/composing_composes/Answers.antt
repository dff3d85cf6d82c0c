use Rattle.proof_right.proofs.Composing.{composed_composes}
use Rattle.proof_right.proofs.laws.composing_composes.Goals as goal

pub returns : goal.returns
returns c = composed_composes
