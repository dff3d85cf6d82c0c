-- what was put out before the index is in range
use Rattle.std.proofs.Common.{take}
use Rattle.std.specs.List.{AllByRecursion}
use Rattle.dns_script.specs.TextLaws.{IsOut}
use Rattle.dns_script.proofs.bounds.outs_are_in_range.Given as goal

abbrev pub invariant-loop-out : goal.invariant-loop-out
invariant-loop-out l = AllByRecursion IsOut (take l.out-index l.fn.outs)
