use Rattle.zone_transfer.specs.Turning.{scene}
use Rattle.zone_fetch_run.proofs.Brought.{brought_whole}
use Rattle.zone_fetch_run.proofs.Coming.{no_serial, that_serial}
use Rattle.zone_fetch_run.proofs.fetching.bring.Goals as goal

pub bring_on-requires : goal.bring_on-requires
bring_on-requires g c = that_serial c.serial.result c.args.zone.now.serial c.in-Some.have c.serial.ensures c.in-Some.is

pub returns-in-None : goal.returns-in-None
returns-in-None g c =
    brought_whole c.args.command.now (g.W.Words.stream c.args.means.now.random) c.args.zone.now c.fetch_whole-end.new.zone
    (scene (g.E.Edge.deeds c.args.edge.now) (g.E.Edge.polls c.args.edge.now) (g.C.Clock.given c.args.means.now.clock))
    (scene (g.E.Edge.deeds c.fetch_whole-end.new.edge) (g.E.Edge.polls c.fetch_whole-end.new.edge) (g.C.Clock.given c.fetch_whole-end.new.means.clock))
    (scene (g.E.Edge.deeds c.args.later.now) (g.E.Edge.polls c.args.later.now) (g.C.Clock.given c.args.means.now.clock))
    (scene (g.E.Edge.deeds c.args.later.now) (g.E.Edge.polls c.args.later.now) (g.C.Clock.given c.fetch_whole-end.new.means.clock))
    c.fetch_whole-end.result (no_serial c.serial.result c.args.zone.now.serial c.serial.ensures c.in-None.is) c.fetch_whole-end.ensures
