-- the rows that are left give what all give
use Rattle.std.proofs.Common.{◌≡◌, drop}
use Rattle.trace_tables.specs.Books.{nothing}
use Rattle.trace_points.specs.questions.Judging.{least_from}
use Rattle.trace_points.proofs.questions.judging.find.Given as goal

abbrev pub invariant-loop-i : goal.invariant-loop-i
invariant-loop-i l = least_from l.i (drop l.i l.rows) l.books ≡ least_from 0 l.rows nothing
