use Rattle.trace_points.proofs.lemmas.questions.Finding.{search_decides}
use Rattle.trace_points.proofs.questions.laws.search_decides.Goals as goal

pub returns : goal.returns
returns c = search_decides
