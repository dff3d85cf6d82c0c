use Rattle.trace_points.proofs.lemmas.questions.Deciding.{if_ok}
use Rattle.trace_outs.proofs.lemmas.busy.Deciding.{tells_busy}
use Rattle.trace_outs.proofs.busy.busy.Scene.are_waiting_busy.Goals as goal

pub returns : goal.returns
returns c = if_ok c.all_busy.result (λ b e. tells_busy c.args.self.now b e) c.all_busy.ensures
