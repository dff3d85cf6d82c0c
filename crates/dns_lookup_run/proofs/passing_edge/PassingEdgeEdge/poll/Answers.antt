use Rattle.std.proofs.Common.{subst, sym}
use Rattle.client_core.specs.Edge.{after_fault}
use Rattle.dns_lookup_run.specs.Passing.{Gives, Passing}
use Rattle.dns_lookup_run.proofs.Passed.{gives_so}
use Rattle.dns_lookup_run.proofs.passing_edge.PassingEdgeEdge.poll.Goals as goal

pub returns-clause-gives : goal.returns-clause-gives
returns-clause-gives g c =
    let before : Passing g.row.E.Denot = record { edge = c.self.inside.edge; servers = c.self.inside.servers; places = c.self.inside.places.items; refused = c.self.inside.refused.items; faults = c.self.inside.faults } in
    subst (λ p. Gives g.E.Edge.deeds c.args.self.now c.in_ok-what.what p) (sym c.count.ensures)
    (subst (λ (q : Passing g.row.E.Denot). Gives g.E.Edge.deeds q c.in_ok-what.what (record c.given.new.self { faults = after_fault c.in_ok-what.what c.given.new.self.faults })) c.self.view_is
    (gives_so g.E.Edge.deeds before c.given.new.self c.poll.new.self c.in_ok-came.came c.in_ok-what.what (after_fault c.in_ok-what.what c.given.new.self.faults) c.in_ok-came.ensures.deeds c.in_ok-what.ensures.given))
