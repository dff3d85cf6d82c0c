use Rattle.std.proofs.Common.{◌∙◌, ◌++◌, List, ap, map, rules}
use Rattle.dns_values.specs.declared.address.IpAddr.{IpAddr}
use Rattle.dns_lookup_walk.specs.Targets.{server_at}
use Rattle.dns_lookup_walk.proofs.Hosts.{one_found}
use Rattle.dns_lookup_walk.proofs.step.look_up_all.Goals as goal

pub names-preserved : goal.names-preserved
names-preserved g c =
    one_found g.W.World.deeds c.args.names.now c.names.rest.now c.in-Some.name.now c.in-Some.later.now c.in_ok-addresses.addresses c.args.servers.now c.names.servers c.push_servers.new.servers c.args.world.now c.names.world c.look_up.new.self
    (search rules) c.names.invariant c.in_ok-addresses.ensures
    (c.in_ok-push_servers.ensures ∙ ap (λ (ips : List IpAddr). c.names.servers ++ map (server_at c.in-Some.name.now) ips) c.as_slice.ensures)
