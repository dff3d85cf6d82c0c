use Rattle.std.proofs.Common.{List, Option, ap, sym, ◌∙◌}
use Rattle.dns_values.specs.Source.{one_more}
use Rattle.client_core.specs.Edge.{after_deed}
use Rattle.client_core.specs.declared.edge.Deed.{Deed}
use Rattle.client_core.specs.declared.edge.Deed.TheVariants.{Polled}
use Rattle.zone_transfer.specs.Turning.{scene}
use Rattle.zone_transfer.proofs.Turns.{still_more}
use Rattle.zone_transfer.proofs.opening.open.Goals as goal

pub loop-left-preserved : goal.loop-left-preserved
loop-left-preserved g c =
    let old = scene (g.E.Edge.deeds c.args.edge.now) (g.E.Edge.polls c.args.edge.now) (g.C.Clock.given c.args.clock.now) in
    let mid = scene (g.E.Edge.deeds c.loop-left.edge) (g.E.Edge.polls c.loop-left.edge) (g.C.Clock.given c.loop-left.clock) in
    let new = scene (g.E.Edge.deeds c.poll.new.self) (g.E.Edge.polls c.poll.new.self) (g.C.Clock.given c.loop-left.clock) in
    record {
      opens =
          still_more c.args.most c.loop-left.left old mid new c.in_ok-polled.polled c.loop-left.invariant.opens c.loop-left-test.true (sym c.in-None.ensures)
          (c.in_ok-polled.ensures.deeds ∙ ap (λ (ds : Option (List Deed)). after_deed (Polled c.in_ok-polled.polled) ds) c.wait.ensures.deeds)
          (c.in_ok-polled.ensures.polls ∙ ap one_more c.wait.ensures.polls);
      moments = c.loop-left.invariant.moments;
    }
