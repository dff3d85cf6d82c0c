-- the rows that are left give what all give
use Rattle.std.proofs.Common.{◌≡◌, drop}
use Rattle.trace_hits.specs.timely.Waiting.{after_rows}
use Rattle.trace_hits.proofs.timely.waiting.Waiting.take_all.Given as goal

abbrev pub invariant-loop-row : goal.invariant-loop-row
invariant-loop-row l = after_rows (drop l.row-index l.rows) l.self ≡ after_rows l.rows l.fn.self
