use Rattle.std.proofs.Common.{◌≡◌, ◌++◌}
use Rattle.std.specs.VecDeque.Iter.{deque_iter_rest}
use Rattle.resolv_lookup.proofs.srv.push_copies.Given as goal

-- Copies of the servers that are left are still to come.
abbrev pub invariant-loop-item : goal.invariant-loop-item
invariant-loop-item l = l.fn.items.items ++ l.found ≡ l.items.items ++ deque_iter_rest l.item-iterator
