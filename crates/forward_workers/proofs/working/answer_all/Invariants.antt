use Rattle.std.proofs.Common.{◌≡◌}
use Rattle.std.specs.Prelude.{drop}
use Rattle.forward_run.specs.Front.{acts_on, after_deeds}
use Rattle.front_shared.specs.Waiting.{for_any}
use Rattle.forward_workers.proofs.working.answer_all.Given as goal

-- what was done, and what is still to be done, are all of it
abbrev pub invariant-loop-out : goal.invariant-loop-out
invariant-loop-out g l = after_deeds (acts_on (for_any (drop l.out-index l.outs))) (g.D.Door.deeds l.door) ≡ after_deeds (acts_on (for_any l.outs)) (g.D.Door.deeds l.fn.door)
