use Rattle.std.proofs.Common.{◌≡◌, length}
use Rattle.client_request.specs.Cx.{view_of, LendsTheSame}
use Rattle.client_multi.specs.Fallback as plain
use Rattle.client_multi.proofs.dgram_stream.steps.settle_all.Given as goal

abbrev pub invariant-loop-posted : goal.invariant-loop-posted
invariant-loop-posted g l =
    record {
      lends : LendsTheSame l.fn.cx l.cx;
      same :
          plain.settles_all l.server g.S.SendRequest.transport l.from_dgram l.parts l.from_stream (view_of g.W.Words.stream l.cx)
          ≡ plain.settles_all l.server g.S.SendRequest.transport l.fn.from_dgram l.fn.parts l.fn.from_stream (view_of g.W.Words.stream l.fn.cx);
      keeps :
          plain.holds_below g.D.SendRequest.holds_failed g.S.SendRequest.holds_failed l.parts
          ≡ plain.holds_below g.D.SendRequest.holds_failed g.S.SendRequest.holds_failed l.fn.parts;
    }

abbrev pub decreases-loop-posted : goal.decreases-loop-posted
decreases-loop-posted g l = length l.from_dgram
