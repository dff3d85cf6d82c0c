use Rattle.std.proofs.Common.{◌∙◌, Option, Some, subst, sym}
use Rattle.dns_lookup_walk.specs.Trying.{DidStep}
use Rattle.dns_lookup_walk.specs.Walks.{given_targets}
use Rattle.dns_lookup_walk.specs.declared.trying.UsefulAnswer.{UsefulAnswer}
use Rattle.dns_lookup_walk.proofs.Paths.{step_last, step_more, step_stranded}
use Rattle.dns_lookup_walk.proofs.Zones.{room_shrinks}
use Rattle.dns_lookup_walk.proofs.walking.walk.Goals as goal

pub returns-in_default : goal.returns-in_default
returns-in_default g c =
    step_stranded g.W.World.deeds c.args.ask.now (given_targets c.args.servers) c.steps.station c.steps.targets c.args.world.now c.steps.world c.step.new.world c.steps.invariant
    (subst (λ (h : Option UsefulAnswer). DidStep g.W.World.deeds c.args.ask.now c.steps.station c.steps.targets h c.steps.world c.step.new.world) c.in_default.is c.in_ok-heard.ensures)

pub returns-in-Ends : goal.returns-in-Ends
returns-in-Ends g c =
    step_last g.W.World.deeds c.args.ask.now (given_targets c.args.servers) c.steps.station c.steps.targets c.in-Some.heard c.in-Ends.ending c.args.world.now c.steps.world c.step.new.world c.steps.invariant
    (subst (λ (h : Option UsefulAnswer). DidStep g.W.World.deeds c.args.ask.now c.steps.station c.steps.targets h c.steps.world c.step.new.world) c.in-Some.is c.in_ok-heard.ensures)
    c.in-Ends.is

pub steps-smaller : goal.steps-smaller
steps-smaller g c =
    let did : DidStep g.W.World.deeds c.args.ask.now c.steps.station c.steps.targets (Some c.in-Some.heard) c.steps.world c.step.new.world =
    subst (λ (h : Option UsefulAnswer). DidStep g.W.World.deeds c.args.ask.now c.steps.station c.steps.targets h c.steps.world c.step.new.world) c.in-Some.is c.in_ok-heard.ensures in
    room_shrinks c.args.ask.now.name c.steps.station c.in-Some.heard.message c.in-Refers.zone (sym did.is_judged.0 ∙ c.in-Refers.is)

pub steps-preserved : goal.steps-preserved
steps-preserved g c =
    step_more g.W.World.deeds c.args.ask.now (given_targets c.args.servers) c.steps.station c.steps.targets c.in-Some.heard c.in-Refers.zone c.in_ok-targets-in-Refers.targets c.args.world.now c.steps.world c.step.new.world c.steps.invariant
    (subst (λ (h : Option UsefulAnswer). DidStep g.W.World.deeds c.args.ask.now c.steps.station c.steps.targets h c.steps.world c.step.new.world) c.in-Some.is c.in_ok-heard.ensures)
    c.in-Refers.is c.in_ok-targets-in-Refers.ensures
