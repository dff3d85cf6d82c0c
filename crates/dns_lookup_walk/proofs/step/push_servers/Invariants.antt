use Rattle.std.proofs.Common.{◌≡◌, ◌++◌, map, take}
use Rattle.dns_lookup_walk.specs.Targets.{server_at}
use Rattle.dns_lookup_walk.proofs.step.push_servers.Given as goal

abbrev pub invariant-loop-ip : goal.invariant-loop-ip
invariant-loop-ip l = l.servers ≡ l.fn.servers ++ map (server_at l.name) (take l.ip-index l.addresses)
