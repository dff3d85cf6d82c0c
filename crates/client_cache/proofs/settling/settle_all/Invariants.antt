use Rattle.std.proofs.Common.{◌≡◌, length}
use Rattle.client_request.specs.Cx.{view_of, LendsTheSame}
use Rattle.client_cache.specs.Plain as plain
use Rattle.client_cache.proofs.settling.settle_all.Given as goal

abbrev pub invariant-loop-posted : goal.invariant-loop-posted
invariant-loop-posted g l =
    record {
      lends : LendsTheSame l.fn.cx l.cx;
      same :
          plain.settles_all l.board l.kept (view_of g.W.Words.stream l.cx)
          ≡ plain.settles_all l.initial.board l.fn.kept (view_of g.W.Words.stream l.fn.cx);
    }

abbrev pub decreases-loop-posted : goal.decreases-loop-posted
decreases-loop-posted g l = length l.board
