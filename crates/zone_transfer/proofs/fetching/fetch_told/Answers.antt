use Rattle.std.proofs.Common.{rules, sym, ◌∙◌}
use Rattle.stream_turns.specs.Turns.{client_with}
use Rattle.zone_transfer.specs.Turning.{scene}
use Rattle.zone_transfer.proofs.Fetched.{cause_of_cut, cause_of_early, cause_of_unapplied, fetched_of}
use Rattle.zone_transfer.proofs.fetching.fetch_told.Goals as goal

pub returns-in-Err-read_all-clause-cause : goal.returns-in-Err-read_all-clause-cause
returns-in-Err-read_all-clause-cause g c =
    cause_of_cut c.args.kind (g.W.Words.stream c.args.words.now) c.args.most c.args.zone.now
    (scene (g.E.Edge.deeds c.args.edge.now) (g.E.Edge.polls c.args.edge.now) (g.C.Clock.given c.args.clock.now))
    (scene (g.E.Edge.deeds c.begin.new.edge) (g.E.Edge.polls c.begin.new.edge) (g.C.Clock.given c.begin.new.clock))
    (scene (g.E.Edge.deeds c.read_all.new.edge) (g.E.Edge.polls c.read_all.new.edge) (g.C.Clock.given c.read_all.new.clock))
    (client_with (g.W.Words.stream c.begin.new.words) c.in_ok-asked.asked.transfer) c.in_ok-asked.asked.left c.in-Ok.request c.in-Ok.ensures.made c.in_ok-asked.ensures.asked c.new-reading.result (search rules) c.in-Err-read_all.fault
    c.in-Err-read_all.ensures.cause

pub returns-then-not-is_finished-clause-cause : goal.returns-then-not-is_finished-clause-cause
returns-then-not-is_finished-clause-cause g c =
    cause_of_early c.args.kind (g.W.Words.stream c.args.words.now) c.args.most c.args.zone.now
    (scene (g.E.Edge.deeds c.args.edge.now) (g.E.Edge.polls c.args.edge.now) (g.C.Clock.given c.args.clock.now))
    (scene (g.E.Edge.deeds c.begin.new.edge) (g.E.Edge.polls c.begin.new.edge) (g.C.Clock.given c.begin.new.clock))
    (scene (g.E.Edge.deeds c.read_all.new.edge) (g.E.Edge.polls c.read_all.new.edge) (g.C.Clock.given c.read_all.new.clock))
    (client_with (g.W.Words.stream c.begin.new.words) c.in_ok-asked.asked.transfer) c.in_ok-asked.asked.left c.in-Ok.request c.in-Ok.ensures.made c.in_ok-asked.ensures.asked c.new-reading.result (search rules) c.read_all.new.reading.state
    c.in-Ok-read_all.ensures.ended (sym c.is_finished.ensures ∙ c.if-not-is_finished.true)

pub returns-clause-fetched : goal.returns-clause-fetched
returns-clause-fetched g c =
    fetched_of c.args.kind (g.W.Words.stream c.args.words.now) c.args.most c.args.zone.now
    (scene (g.E.Edge.deeds c.args.edge.now) (g.E.Edge.polls c.args.edge.now) (g.C.Clock.given c.args.clock.now))
    (scene (g.E.Edge.deeds c.begin.new.edge) (g.E.Edge.polls c.begin.new.edge) (g.C.Clock.given c.begin.new.clock))
    (scene (g.E.Edge.deeds c.read_all.new.edge) (g.E.Edge.polls c.read_all.new.edge) (g.C.Clock.given c.read_all.new.clock))
    (client_with (g.W.Words.stream c.begin.new.words) c.in_ok-asked.asked.transfer) c.in_ok-asked.asked.left c.in-Ok.request c.in-Ok.ensures.made c.in_ok-asked.ensures.asked c.new-reading.result (search rules) c.read_all.new.reading.state
    c.read_all.new.reading.most c.apply.new.zone c.apply.result c.in-Ok-read_all.ensures.ended c.in-Ok-read_all.ensures.most (sym c.is_finished.ensures ∙ c.if-not-is_finished.false) c.apply.ensures.applied c.apply.ensures.within

pub returns-clause-cause : goal.returns-clause-cause
returns-clause-cause g c =
    cause_of_unapplied c.args.kind (g.W.Words.stream c.args.words.now) c.args.most c.args.zone.now
    (scene (g.E.Edge.deeds c.args.edge.now) (g.E.Edge.polls c.args.edge.now) (g.C.Clock.given c.args.clock.now))
    (scene (g.E.Edge.deeds c.begin.new.edge) (g.E.Edge.polls c.begin.new.edge) (g.C.Clock.given c.begin.new.clock))
    (scene (g.E.Edge.deeds c.read_all.new.edge) (g.E.Edge.polls c.read_all.new.edge) (g.C.Clock.given c.read_all.new.clock))
    (client_with (g.W.Words.stream c.begin.new.words) c.in_ok-asked.asked.transfer) c.in_ok-asked.asked.left c.in-Ok.request c.in-Ok.ensures.made c.in_ok-asked.ensures.asked c.new-reading.result (search rules) c.read_all.new.reading.state
    c.apply.result c.in-Ok-read_all.ensures.ended (sym c.is_finished.ensures ∙ c.if-not-is_finished.false) c.apply.ensures.refused
