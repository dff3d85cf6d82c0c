use Rattle.proof_bounds.proofs.Rows.{answers_in_a_row_are_few as lemma}
use Rattle.proof_bounds.proofs.laws.answers_in_a_row_are_few.Goals as goal

pub returns : goal.returns
returns c = lemma
