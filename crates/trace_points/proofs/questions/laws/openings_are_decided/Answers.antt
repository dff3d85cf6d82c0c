use Rattle.trace_points.proofs.lemmas.questions.Failing.{opening_decides}
use Rattle.trace_points.proofs.questions.laws.openings_are_decided.Goals as goal

pub returns : goal.returns
returns c = opening_decides
