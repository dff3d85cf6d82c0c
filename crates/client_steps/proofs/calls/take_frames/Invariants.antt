use Rattle.std.proofs.Common.{◌≡◌}
use Rattle.client_request.specs.Cx.{view_of, LendsTheSame}
use Rattle.client_steps.specs.Client as plain
use Rattle.client_steps.specs.Client.{client_of}
use Rattle.client_steps.specs.Machines.{machine_of}
use Rattle.client_steps.proofs.calls.take_frames.Given as goal

abbrev pub invariant-loop-left : goal.invariant-loop-left
invariant-loop-left g l =
    let layer = g.L.SendRequest in
    let m = machine_of layer.transport g.L.Response.GetResponse.ticket_of g.L.ServesStale.stale in
    record {
      lends : LendsTheSame l.fn.cx l.cx;
      same : plain.more_frames m l.fn.place l.fn.most (client_of l.fn.layer (l.fn.asked, view_of g.W.Words.stream l.fn.cx))
          ≡ plain.more_frames m l.fn.place l.left (client_of l.layer (l.asked, view_of g.W.Words.stream l.cx));
      keeps : layer.holds_failed l.layer ≡ layer.holds_failed l.fn.layer;
    }

abbrev pub decreases-loop-left : goal.decreases-loop-left
decreases-loop-left g l = l.left
