use Rattle.forward_conf.proofs.Notes.{noted_anyway, untaken}
use Rattle.forward_conf.proofs.reading.read_as_found.Goals as goal

pub returns-in_err-found-clause-told : goal.returns-in_err-found-clause-told
returns-in_err-found-clause-told g c = noted_anyway c.from_residual.result (g.L.Sink.held c.args.errors.now) (g.L.Sink.faults c.args.errors.now)

pub returns-clause-cause : goal.returns-clause-cause
returns-clause-cause g c =
    untaken c.ready.result c.in_ok-found.found (g.S.Source.left c.args.source.now) (g.S.Source.faults c.args.source.now) (g.S.Source.faults c.find.new.source) c.in_ok-found.ensures.found c.ready.ensures.cause
