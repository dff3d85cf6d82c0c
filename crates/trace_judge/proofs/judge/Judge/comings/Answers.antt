use Rattle.trace_judge.proofs.{Judging.found, Telling.if_ok}
use Rattle.trace_judge.proofs.judge.Judge.comings.Goals as goal

pub returns : goal.returns
returns c = if_ok c.find_coming.result (λ xs d. found c.args.rules.now c.args.self.now xs d) c.find_coming.ensures
