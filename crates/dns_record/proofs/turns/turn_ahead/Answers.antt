use Rattle.dns_record.proofs.Keeping.{are_enough, keeps_back}
use Rattle.dns_record.proofs.turns.turn_ahead.Goals as goal

pub returns-clause-recorded : goal.returns-clause-recorded
returns-clause-recorded g c =
    keeps_back c.args.recorder.now c.turn_within.new.recorder c.keep.new.self c.in_ok-row.row c.keep.new.row (g.K.Sink.held c.args.sink.now) (g.K.Sink.held c.keep.new.sink) c.args.client.now c.turn_within.new.client c.turn_within.ensures.stands c.keep.ensures.row
    (c.keep.ensures.kept c.args.client.now c.turn_within.new.client c.in_ok-row.row.event c.args.recorder.now.words c.in_ok-row.ensures.row c.in_ok-row.ensures.timeout)

pub returns-clause-enough : goal.returns-clause-enough
returns-clause-enough g c = are_enough c.are_few.result _ _ c.are_few.ensures c.if-are_few.false
