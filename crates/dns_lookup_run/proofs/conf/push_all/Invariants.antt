use Rattle.std.proofs.Common.{◌≡◌, ◌++◌, map, take}
use Rattle.resolv_conf.specs.Conf.{name_server}
use Rattle.dns_lookup_run.proofs.conf.push_all.Given as goal

abbrev pub invariant-loop-ip : goal.invariant-loop-ip
invariant-loop-ip l = l.servers ≡ l.fn.servers ++ map name_server (take l.ip-index l.ips)
