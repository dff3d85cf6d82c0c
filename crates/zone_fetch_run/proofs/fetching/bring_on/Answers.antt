use Rattle.std.proofs.Common.{Ok, Err}
use Rattle.zone_transfer.specs.Turning.{scene}
use Rattle.zone_fetch_run.proofs.Brought.{brought_on, brought_then}
use Rattle.zone_fetch_run.proofs.fetching.bring_on.Goals as goal

pub returns-in-Ok-None : goal.returns-in-Ok-None
returns-in-Ok-None g c =
    brought_on c.args.command.now (g.W.Words.stream c.args.means.now.random) c.args.zone.now c.fetch_changes.new.zone
    (scene (g.E.Edge.deeds c.args.edge.now) (g.E.Edge.polls c.args.edge.now) (g.C.Clock.given c.args.means.now.clock))
    (scene (g.E.Edge.deeds c.fetch_changes.new.edge) (g.E.Edge.polls c.fetch_changes.new.edge) (g.C.Clock.given c.fetch_changes.new.means.clock))
    (scene (g.E.Edge.deeds c.args.later.now) (g.E.Edge.polls c.args.later.now) (g.C.Clock.given c.args.means.now.clock))
    (scene (g.E.Edge.deeds c.args.later.now) (g.E.Edge.polls c.args.later.now) (g.C.Clock.given c.fetch_changes.new.means.clock))
    c.args.have c.requires c.fetch_changes.result (Ok tt) (let a = c.in-Ok-None.is in let b = c.in-Ok-None.field-0-is in cc) c.fetch_changes.ensures

pub returns-in-Ok-Some : goal.returns-in-Ok-Some
returns-in-Ok-Some g c =
    brought_then c.args.command.now (g.W.Words.stream c.args.means.now.random) c.args.zone.now c.fetch_anew-end.new.zone
    (scene (g.E.Edge.deeds c.args.edge.now) (g.E.Edge.polls c.args.edge.now) (g.C.Clock.given c.args.means.now.clock))
    (scene (g.E.Edge.deeds c.fetch_changes.new.edge) (g.E.Edge.polls c.fetch_changes.new.edge) (g.C.Clock.given c.fetch_anew-end.new.means.clock))
    (scene (g.E.Edge.deeds c.args.later.now) (g.E.Edge.polls c.args.later.now) (g.C.Clock.given c.args.means.now.clock))
    (scene (g.E.Edge.deeds c.fetch_anew-end.new.edge) (g.E.Edge.polls c.fetch_anew-end.new.edge) (g.C.Clock.given c.fetch_anew-end.new.means.clock))
    c.args.have c.requires c.fetch_changes.result c.in-Ok-Some.why c.fetch_changes.new.zone (g.C.Clock.given c.fetch_changes.new.means.clock) (g.W.Words.stream c.fetch_changes.new.means.random) c.fetch_anew-end.result
    (let a = c.in-Ok-Some.is in let b = c.in-Ok-Some.field-0-is in cc) c.fetch_changes.ensures c.fetch_anew-end.ensures

pub returns-in-Err : goal.returns-in-Err
returns-in-Err g c =
    brought_on c.args.command.now (g.W.Words.stream c.args.means.now.random) c.args.zone.now c.fetch_changes.new.zone
    (scene (g.E.Edge.deeds c.args.edge.now) (g.E.Edge.polls c.args.edge.now) (g.C.Clock.given c.args.means.now.clock))
    (scene (g.E.Edge.deeds c.fetch_changes.new.edge) (g.E.Edge.polls c.fetch_changes.new.edge) (g.C.Clock.given c.fetch_changes.new.means.clock))
    (scene (g.E.Edge.deeds c.args.later.now) (g.E.Edge.polls c.args.later.now) (g.C.Clock.given c.args.means.now.clock))
    (scene (g.E.Edge.deeds c.args.later.now) (g.E.Edge.polls c.args.later.now) (g.C.Clock.given c.fetch_changes.new.means.clock))
    c.args.have c.requires c.fetch_changes.result (Err c.in-Err.left) c.in-Err.is c.fetch_changes.ensures
