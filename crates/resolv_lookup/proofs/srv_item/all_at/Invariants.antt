use Rattle.std.proofs.Common.{◌≡◌, take}
use Rattle.resolv_lookup.specs.Hosts.{with_port}
use Rattle.resolv_lookup.proofs.srv_item.all_at.Given as goal

-- The addresses so far, with the port.
abbrev pub invariant-loop-ip : goal.invariant-loop-ip
invariant-loop-ip l = l.all.items ≡ with_port l.port (take l.ip-index l.addresses)
