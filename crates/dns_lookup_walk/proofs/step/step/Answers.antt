use Rattle.std.proofs.Common.{◌∙◌, List, Option, ap, subst, take}
use Rattle.dns_names.specs.Name.{Labels}
use Rattle.dns_lookup_walk.specs.Trying.{DidLookUp, DidStep, DidTry}
use Rattle.dns_lookup_walk.specs.declared.server.NameServer.{NameServer}
use Rattle.dns_lookup_walk.specs.declared.trying.UsefulAnswer.{UsefulAnswer}
use Rattle.dns_lookup_walk.proofs.Paths.{if_ok, step_by_glue, step_by_names}
use Rattle.dns_lookup_walk.proofs.step.step.Goals as goal

pub returns-in-Some : goal.returns-in-Some
returns-in-Some g c =
    step_by_glue g.W.World.deeds c.args.ask.now c.args.station.now c.args.targets.now c.first_of-glue.result.now c.in-Some.heard c.args.world.now c.first_heard.new.world
    (c.first_of-glue.ensures ∙ ap (λ (s : List NameServer). take 16 s) c.as_slice.ensures)
    (subst (λ (h : Option UsefulAnswer). DidTry g.W.World.deeds c.args.ask.now c.args.station.now c.first_of-glue.result.now h c.args.world.now c.first_heard.new.world) c.in-Some.is c.in_ok-heard.ensures)

pub returns : goal.returns
returns g c =
    if_ok (λ heard. DidTry g.W.World.deeds c.args.ask.now c.args.station.now c.first_of-servers.result.now heard c.look_up_all.new.world c.first_heard-2.new.world)
    (λ heard. DidStep g.W.World.deeds c.args.ask.now c.args.station.now c.args.targets.now heard c.args.world.now c.first_heard-2.new.world) c.first_heard-2.result
    (λ heard did.
    step_by_names g.W.World.deeds c.args.ask.now c.args.station.now c.args.targets.now c.first_of-glue.result.now c.first_of-names.result.now c.look_up_all.new.servers c.first_of-servers.result.now heard c.args.world.now c.first_heard.new.world c.look_up_all.new.world c.first_heard-2.new.world
    (c.first_of-glue.ensures ∙ ap (λ (s : List NameServer). take 16 s) c.as_slice.ensures)
    (c.first_of-names.ensures ∙ ap (λ (n : List Labels). take 8 n) c.as_slice-2.ensures)
    (c.first_of-servers.ensures ∙ ap (λ (s : List NameServer). take 16 s) c.as_slice-3.ensures)
    (subst (λ (h : Option UsefulAnswer). DidTry g.W.World.deeds c.args.ask.now c.args.station.now c.first_of-glue.result.now h c.args.world.now c.first_heard.new.world) c.in_default.is c.in_ok-heard.ensures)
    (subst (λ (s : List NameServer). DidLookUp g.W.World.deeds c.first_of-names.result.now s c.look_up_all.new.servers c.first_heard.new.world c.look_up_all.new.world) c.new-found.ensures c.in_ok-look_up_all.ensures)
    did) c.first_heard-2.ensures
