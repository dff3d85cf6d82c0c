use Rattle.std.proofs.Common.{◌≡◌, ◌-◌}
use Rattle.client_request.specs.Cx.{view_of, LendsTheSame}
use Rattle.client_steps.specs.Client as plain
use Rattle.client_steps.specs.Client.{client_of}
use Rattle.client_steps.specs.Machines.{machine_of}
use Rattle.client_steps.proofs.Fuel.{fires_from}
use Rattle.client_steps.proofs.calls.fire_all.Given as goal

abbrev pub invariant-loop-count : goal.invariant-loop-count
invariant-loop-count g l =
    let layer = g.L.SendRequest in
    let m = machine_of layer.transport g.L.Response.GetResponse.ticket_of g.L.ServesStale.stale in
    record {
      lends : LendsTheSame l.fn.cx l.cx;
      same : plain.fires_all m (client_of l.fn.layer (l.fn.asked, view_of g.W.Words.stream l.fn.cx)) ≡ fires_from m l.count (client_of l.layer (l.asked, view_of g.W.Words.stream l.cx));
      keeps : layer.holds_failed l.layer ≡ layer.holds_failed l.fn.layer;
    }

abbrev pub decreases-loop-count : goal.decreases-loop-count
decreases-loop-count g l = 18446744073709551615 - l.count
