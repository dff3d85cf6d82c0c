-- the outs that are left, behind what was said so far, are judged as all
use Rattle.std.proofs.Common.{◌≡◌, ◌&&◌, drop}
use Rattle.trace_tables.specs.Books.{have_put}
use Rattle.trace_points.specs.questions.Judging.{outs_first}
use Rattle.trace_points.proofs.questions.judging.judge_outs.Given as goal

abbrev pub invariant-loop-out : goal.invariant-loop-out
invariant-loop-out l = record {
  judged : (l.right && outs_first l.what (drop l.out-index l.outs) l.books) ≡ outs_first l.what l.outs l.fn.books;
  stands : have_put l.what (drop l.out-index l.outs) l.books ≡ have_put l.what l.outs l.fn.books;
}
