use Rattle.std.proofs.Common.{◌≡◌, ◌++◌, drop}
use Rattle.client_choice.specs.Redundant as plain
use Rattle.client_choice.proofs.entries.in_order_added.Given as goal

abbrev pub invariant-loop-index : goal.invariant-loop-index
invariant-loop-index g l =
    l.list.items ++ plain.in_order_added l.index (drop l.index l.servers) ≡ plain.in_order_added 0 l.servers
