use Rattle.std.proofs.Common.{◌≡◌, ◌++◌}
use Rattle.std.specs.Prelude.{drop}
use Rattle.front_shared.specs.Waiting.{for_first}
use Rattle.front_shared.proofs.handing.keep_all.Given as goal

-- what was kept, and what is still to be kept, are all of it
abbrev pub invariant-loop-out : goal.invariant-loop-out
invariant-loop-out l = l.waiting ++ for_first (drop l.out-index l.outs) ≡ l.initial.waiting ++ for_first l.outs
