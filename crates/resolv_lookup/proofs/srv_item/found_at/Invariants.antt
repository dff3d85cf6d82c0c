use Rattle.std.proofs.Common.{◌≡◌, ◌++◌}
use Rattle.resolv_lookup.proofs.srv_item.found_at.Given as goal

-- Those that are left are still to come.
abbrev pub invariant-loop-address : goal.invariant-loop-address
invariant-loop-address l = l.fn.addresses ≡ l.all.items ++ l.address-iterator
