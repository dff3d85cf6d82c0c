use Rattle.std.proofs.Common.{◌≡◌, ◌+◌, ◌≤◌, ◌++◌, length, map, reverse}
use Rattle.std.specs.Vec.{vec_len, vec_capacity}
use Rattle.client_stream.specs.IdTable.{held_from}
use Rattle.client_stream.proofs.queries.gather.Given as goal

abbrev pub invariant-loop-slot : goal.invariant-loop-slot
invariant-loop-slot g l = record {
  items : map (λ entry. entry.1) (held_from 0 l.slots.items) ++ reverse l.items.items ≡ map (λ entry. entry.1) (held_from 0 l.initial.slots.items);
  room : length (held_from 0 l.slots.items) + vec_len l.items ≤ vec_capacity l.items;
}

abbrev pub decreases-loop-slot : goal.decreases-loop-slot
decreases-loop-slot g l = vec_len l.slots
