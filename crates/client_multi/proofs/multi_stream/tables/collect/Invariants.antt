use Rattle.std.proofs.Common.{◌≡◌, length}
use Rattle.client_request.specs.Cx.{view_of, LendsTheSame}
use Rattle.client_multi.specs.MultiStream as plain
use Rattle.client_multi.proofs.multi_stream.tables.collect.Given as goal

abbrev pub invariant-loop-posted : goal.invariant-loop-posted
invariant-loop-posted g l =
    record {
      lends : LendsTheSame l.fn.cx l.cx;
      same : plain.collects l.board l.tables (view_of g.W.Words.stream l.cx) ≡ plain.collects l.fn.board l.fn.tables (view_of g.W.Words.stream l.fn.cx);
    }

abbrev pub decreases-loop-posted : goal.decreases-loop-posted
decreases-loop-posted g l = length l.board
