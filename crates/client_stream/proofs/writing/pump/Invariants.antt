use Rattle.std.proofs.Common.{◌≡◌, length}
use Rattle.client_request.specs.Cx.{view_of, LendsTheSame}
use Rattle.client_stream.specs.Plain as plain
use Rattle.client_stream.proofs.writing.pump.Given as goal

abbrev pub invariant-loop-line : goal.invariant-loop-line
invariant-loop-line g l =
    let one = g.Req.Compose.requests in
    let several = g.ReqMulti.Compose.requests in
    record {
      lends : LendsTheSame l.fn.cx l.cx;
      same : plain.pumps one several l.place l.config l.line.queue l.line (view_of g.W.Words.stream l.cx) ≡ plain.pumps one several l.place l.config l.fn.line.queue l.fn.line (view_of g.W.Words.stream l.fn.cx);
    }

abbrev pub decreases-loop-line : goal.decreases-loop-line
decreases-loop-line g l = length l.line.queue
