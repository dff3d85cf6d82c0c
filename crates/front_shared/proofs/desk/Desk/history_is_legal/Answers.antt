use Rattle.std.proofs.Common.{subst}
use Rattle.front_shared.specs.History.{IsLegal}
use Rattle.front_shared.proofs.Counting.{desk_legal}
use Rattle.front_shared.proofs.desk.Desk.history_is_legal.Goals as goal

pub returns : goal.returns
returns g c =
    let d = c.self.inside in
    subst (IsLegal g.L.ForwarderKey.opening) c.self.view_is
    (desk_legal g.L.ForwarderKey.table g.L.ForwarderKey.opening d.forwarder (g.W.Words.stream d.words) d.waiting d.count d.ended d.seat c.self.invariant)
