use Rattle.std.proofs.Common.{subst}
use Rattle.client_shared.specs.History.{Passed, AreOfCallers}
use Rattle.client_shared.proofs.Histories.{legal_callers}
use Rattle.client_shared.proofs.pass.Pass.history_is_legal.Goals as goal

pub returns-clause-callers : goal.returns-clause-callers
returns-clause-callers g c =
    subst (λ (p : Passed). AreOfCallers g.L.ClientKey.opening.callers p.seen) c.self.view_is (legal_callers g.L.ClientKey.opening c.self.inside.seat.me.0.seen c.self.invariant.legal)
