use Rattle.trace_points.proofs.lemmas.questions.Deciding.{if_ok}
use Rattle.trace_outs.proofs.Judging.{tells_close}
use Rattle.trace_outs.proofs.outs.is_close_right.Goals as goal

pub returns : goal.returns
returns c = let a = c.args in if_ok c.may_close.result (λ b tells. tells_close a.point.now a.loads.now a.held.now a.place b tells) c.may_close.ensures
