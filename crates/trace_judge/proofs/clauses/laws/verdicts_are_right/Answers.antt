use Rattle.trace_judge.proofs.lemmas.clauses.Verdicts.{kept_is_right}
use Rattle.trace_judge.proofs.clauses.laws.verdicts_are_right.Goals as goal

pub returns : goal.returns
returns c = kept_is_right
