use Rattle.std.proofs.Common.{refl}
use Rattle.client_request.specs.declared.event.What.TheVariants.{Ask}
use Rattle.client_loop.specs.Asking.{scene}
use Rattle.client_loop.proofs.Turning.{begun, stops_first}
use Rattle.dns_record.specs.Asking.{left_of}
use Rattle.dns_record.proofs.asking.begin.Goals as goal

pub returns-clause-begun : goal.returns-clause-begun
returns-clause-begun g c =
    begun c.args.request
    (scene c.args.client.now (left_of c.args.recorder.now) (g.E.Edge.deeds c.args.edge.now) (g.E.Edge.waits c.args.edge.now) (g.E.Edge.polls c.args.edge.now) (g.C.Clock.given c.args.clock.now))
    (scene c.take.new.client (left_of c.take.new.recorder) (g.E.Edge.deeds c.take.new.edge) (g.E.Edge.waits c.take.new.edge) (g.E.Edge.polls c.take.new.edge) (g.C.Clock.given c.now.new.self))
    (record { moment = c.now.result; what = Ask c.args.request }) c.take.result refl c.is_of_octets.ensures c.take.ensures.row c.take.ensures.deeds c.take.ensures.waits c.take.ensures.polls c.now.ensures.given

pub returns-clause-numbers : goal.returns-clause-numbers
returns-clause-numbers g c = λ is.
    stops_first c.args.request
    (scene c.args.client.now (left_of c.args.recorder.now) (g.E.Edge.deeds c.args.edge.now) (g.E.Edge.waits c.args.edge.now) (g.E.Edge.polls c.args.edge.now) (g.C.Clock.given c.args.clock.now))
    (scene c.take.new.client (left_of c.take.new.recorder) (g.E.Edge.deeds c.take.new.edge) (g.E.Edge.waits c.take.new.edge) (g.E.Edge.polls c.take.new.edge) (g.C.Clock.given c.now.new.self))
    (record { moment = c.now.result; what = Ask c.args.request }) refl (c.take.ensures.numbers is) (c.take.ensures.stands is) c.take.ensures.polls c.now.ensures.given
