use Rattle.std.proofs.Common.{◌≡◌}
use Rattle.client_request.specs.Cx.{view_of, LendsTheSame}
use Rattle.client_steps.specs.Client as plain
use Rattle.client_steps.proofs.asked.reply_all.Given as goal

abbrev pub invariant-loop-left : goal.invariant-loop-left
invariant-loop-left g l = record {
  lends : LendsTheSame l.fn.cx l.cx;
  same : plain.replies (l.fn.asked, view_of g.W.Words.stream l.fn.cx) ≡ plain.replies_many l.left (l.asked, view_of g.W.Words.stream l.cx);
}

abbrev pub decreases-loop-left : goal.decreases-loop-left
decreases-loop-left g l = l.left
