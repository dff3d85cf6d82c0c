use Rattle.std.proofs.Common.{◌≡◌, ◌++◌, length}
use Rattle.front_steps.specs.Waits as spec
use Rattle.front_steps.proofs.putting.put_all.Given as goal

abbrev pub invariant-loop-out : goal.invariant-loop-out
invariant-loop-out l = record {
  outs : l.fn.outs ++ (spec.puts_all l.fn.from l.fn.desk).0 ≡ l.outs ++ (spec.puts_all l.left.items l.desk).0;
  desk : (spec.puts_all l.fn.from l.fn.desk).1 ≡ (spec.puts_all l.left.items l.desk).1;
}

abbrev pub decreases-loop-out : goal.decreases-loop-out
decreases-loop-out l = length l.left.items
