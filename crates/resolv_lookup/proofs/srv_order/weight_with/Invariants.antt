use Rattle.std.proofs.Common.{◌≡◌, ◌+◌, ◌*◌, ◌≤◌, drop}
use Rattle.resolv_lookup.specs.Order.{weight_with}
use Rattle.resolv_lookup.proofs.srv_order.weight_with.Given as goal

-- The weights so far and those to come are all of them.
abbrev pub invariant-loop-item : goal.invariant-loop-item
invariant-loop-item l = record {
  total : l.weight + weight_with l.priority (drop l.item-index l.items) ≡ weight_with l.priority l.items;
  bounded : l.weight ≤ 65535 * l.item-index;
}
