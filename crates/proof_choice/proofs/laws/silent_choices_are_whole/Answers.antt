use Rattle.proof_choice.proofs.Whole.{silent_choices_are_whole}
use Rattle.proof_choice.proofs.laws.silent_choices_are_whole.Goals as goal

pub returns : goal.returns
returns c = silent_choices_are_whole
