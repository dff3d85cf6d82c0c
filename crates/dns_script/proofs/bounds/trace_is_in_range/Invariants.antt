-- the rows before the index are in range
use Rattle.std.proofs.Common.{take}
use Rattle.std.specs.List.{AllByRecursion}
use Rattle.dns_script.specs.TextLaws.{IsRow}
use Rattle.dns_script.proofs.bounds.trace_is_in_range.Given as goal

abbrev pub invariant-loop-row : goal.invariant-loop-row
invariant-loop-row l = AllByRecursion IsRow (take l.row-index l.fn.t.rows)
