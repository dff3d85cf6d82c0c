use Rattle.proof_choice.proofs.Whole.{silent_choices_refuse}
use Rattle.proof_choice.proofs.laws.silent_choices_refuse.Goals as goal

pub returns : goal.returns
returns c = silent_choices_refuse
