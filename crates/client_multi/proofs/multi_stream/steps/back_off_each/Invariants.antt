use Rattle.std.proofs.Common.{◌≡◌, length}
use Rattle.client_request.specs.Cx.{view_of, LendsTheSame}
use Rattle.client_multi.specs.MultiStream as plain
use Rattle.client_multi.proofs.multi_stream.steps.back_off_each.Given as goal

abbrev pub invariant-loop-ticket : goal.invariant-loop-ticket
invariant-loop-ticket g l =
    record {
      lends : LendsTheSame l.fn.cx l.cx;
      same : plain.each plain.backs_off l.tired.keys l.tables (view_of g.W.Words.stream l.cx) ≡ plain.each plain.backs_off l.initial.tired.keys l.fn.tables (view_of g.W.Words.stream l.fn.cx);
    }

abbrev pub decreases-loop-ticket : goal.decreases-loop-ticket
decreases-loop-ticket g l = length l.tired.keys
