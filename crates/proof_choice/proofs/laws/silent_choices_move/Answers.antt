use Rattle.proof_choice.proofs.Silence.{silent_choices_move}
use Rattle.proof_choice.proofs.laws.silent_choices_move.Goals as goal

pub returns : goal.returns
returns c = silent_choices_move
