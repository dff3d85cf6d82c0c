use Rattle.std.proofs.Common.{◌≡◌, Some, List, refl, ap, subst, ◌∙◌}
use Rattle.client_request.specs.declared.event.Out.{Out}
use Rattle.client_loop.specs.Turns.{acts_on, after_deeds}
use Rattle.stream_turns.specs.Turns.{Held, begins, client_with}
use Rattle.zone_transfer.specs.Turning.{scene}
use Rattle.zone_transfer.proofs.Fetched.{asked_of}
use Rattle.zone_transfer.proofs.asked.Asked.begin.Goals as goal

pub returns-in_ok-act_all-in-Ok-clause-asked : goal.returns-in_ok-act_all-in-Ok-clause-asked
returns-in_ok-act_all-in-Ok-clause-asked g c =
    let first = client_with (g.W.Words.stream c.begin.new.words) c.begin.new.self in
    asked_of c.args.request (g.W.Words.stream c.args.words.now)
    (scene (g.E.Edge.deeds c.args.edge.now) (g.E.Edge.polls c.args.edge.now) (g.C.Clock.given c.args.clock.now))
    (scene (g.E.Edge.deeds c.open.new.edge) (g.E.Edge.polls c.open.new.edge) (g.C.Clock.given c.open.new.clock))
    (scene (g.E.Edge.deeds c.act_all.new.edge) (g.E.Edge.polls c.act_all.new.edge) (g.C.Clock.given c.open.new.clock))
    c.in_ok-opened.opened.0 c.in_ok-opened.left c.in-Ok.outs first c.in_ok-opened.ensures.opened
    (subst (λ (t : Held). begins (g.W.Words.stream c.args.words.now) c.args.request t ≡ Some (c.in-Ok.outs, first)) c.in_ok-transfer.ensures c.in-Ok.ensures.begun)
    (c.in_ok-act_all-in-Ok.ensures.deeds ∙ ap (λ (os : List Out). after_deeds (acts_on os) (g.E.Edge.deeds c.open.new.edge)) c.as_slice.ensures) c.in_ok-act_all-in-Ok.ensures.polls refl
