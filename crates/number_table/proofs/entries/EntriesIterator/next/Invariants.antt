use Rattle.std.proofs.Common.{◌≡◌, length}
use Rattle.number_table.specs.Slots.{entries_in}
use Rattle.number_table.proofs.entries.EntriesIterator.next.Given as goal

-- only empty slots were passed over
abbrev pub invariant-loop-slot : goal.invariant-loop-slot
invariant-loop-slot g l = entries_in l.self-inside.slots.now ≡ l.fn.self

abbrev pub decreases-loop-slot : goal.decreases-loop-slot
decreases-loop-slot g l = length l.self-inside.slots.now
