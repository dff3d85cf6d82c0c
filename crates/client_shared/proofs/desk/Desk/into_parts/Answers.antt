use Rattle.std.proofs.Common.{subst}
use Rattle.client_shared.specs.History.{IsLegal}
use Rattle.client_shared.proofs.Histories.{desk_legal}
use Rattle.client_shared.proofs.Drawing.{desk_words}
use Rattle.client_shared.proofs.desk.Desk.into_parts.Goals as goal

pub returns-clause-legal : goal.returns-clause-legal
returns-clause-legal g c =
    let d = c.self.inside in
    subst (IsLegal g.L.ClientKey.opening) c.self.view_is (desk_legal g.L.ClientKey.opening g.W.Words.stream d.client d.words d.entries.items d.lost c.self.invariant.stands)

pub returns-clause-drawn : goal.returns-clause-drawn
returns-clause-drawn g c =
    let d = c.self.inside in
    desk_words g.L.ClientKey.opening g.W.Words.stream d.client d.words d.entries.items d.lost c.self.invariant.stands
