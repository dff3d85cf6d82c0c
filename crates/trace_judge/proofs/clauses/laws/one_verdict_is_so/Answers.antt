use Rattle.trace_judge.proofs.lemmas.clauses.Verdicts.{one_verdict}
use Rattle.trace_judge.proofs.clauses.laws.one_verdict_is_so.Goals as goal

pub returns : goal.returns
returns c = one_verdict
