use Rattle.std.proofs.Common.{◌≡◌, [], Option, arith, rules, subst}
use Rattle.std.proofs.lemmas.List.{nil_from_length}
use Rattle.dns_lookup_walk.specs.Trying.{DidAsk}
use Rattle.dns_lookup_walk.specs.declared.trying.UsefulAnswer.{UsefulAnswer}
use Rattle.dns_lookup_walk.proofs.Tries.{all_failed, one_failed, one_heard}
use Rattle.dns_lookup_walk.proofs.trying.first_heard.Goals as goal

pub returns-in-Some-2 : goal.returns-in-Some-2
returns-in-Some-2 g c =
    one_heard g.W.World.deeds c.args.ask.now c.args.station.now c.args.servers.now c.servers.rest.now c.in-Some.server.now c.in-Some.later.now c.in-Some-2.heard c.args.world.now c.servers.world c.ask_server.new.world
    (search rules) c.servers.invariant
    (subst (λ (h : Option UsefulAnswer). DidAsk g.W.World.deeds c.args.ask.now c.args.station.now c.in-Some.server.now h c.servers.world c.ask_server.new.world) c.in-Some-2.is c.in_ok-heard.ensures)

pub servers-preserved : goal.servers-preserved
servers-preserved g c =
    one_failed g.W.World.deeds c.args.ask.now c.args.station.now c.args.servers.now c.servers.rest.now c.in-Some.server.now c.in-Some.later.now c.args.world.now c.servers.world c.ask_server.new.world
    (search rules) c.servers.invariant
    (subst (λ (h : Option UsefulAnswer). DidAsk g.W.World.deeds c.args.ask.now c.args.station.now c.in-Some.server.now h c.servers.world c.ask_server.new.world) c.in_default-2.is c.in_ok-heard.ensures)

pub returns : goal.returns
returns g c =
    let none : c.servers.rest.now ≡ [] = first_of (search (rules, nil_from_length), grind (arith, nil_from_length), cc) in
    all_failed g.W.World.deeds c.args.ask.now c.args.station.now c.args.servers.now c.servers.rest.now c.args.world.now c.servers.world none c.servers.invariant
