use Rattle.std.proofs.Common.{subst}
use Rattle.std.specs.Prelude.{IfOk}
use Rattle.dns_record.specs.Asking.{left_of}
use Rattle.dns_lookup_run.specs.Making.{AskedBy}
use Rattle.dns_lookup_run.specs.Recorded.{Recordings, keeps_by}
use Rattle.dns_lookup_run.proofs.recorded.RecordedAsksAsks.ask.Goals as goal

pub returns-clause-answered : goal.returns-clause-answered
returns-clause-answered g c =
    let after : Recordings g.row.K.Denot = record { recorder = c.recorded_ask.new.recorder; sink = c.recorded_ask.new.sink } in
    let Gives : Recordings g.row.K.Denot → Type 0 = λ old.
    IfOk c.recorded_ask.result
    (AskedBy g.E.Edge.deeds g.E.Edge.waits g.E.Edge.polls g.C.Clock.given (λ r. left_of r.recorder) (keeps_by g.K.Sink.held) (c.args.client.now, c.args.edge.now, c.args.clock.now, old)
    (c.recorded_ask.new.client, c.recorded_ask.new.edge, c.recorded_ask.new.clock, after) c.args.number c.args.request) in
    subst Gives c.self.view_is c.recorded_ask.ensures.answered
