use Rattle.std.proofs.Common.{length, ◌-◌, ◌≤◌}
use Rattle.client_stream.specs.IdTable.{full_front}
use Rattle.client_stream.proofs.queries.first_free.Given as goal

abbrev pub invariant-loop-id : goal.invariant-loop-id
invariant-loop-id g l = l.id ≤ full_front l.slots

abbrev pub decreases-loop-id : goal.decreases-loop-id
decreases-loop-id g l = length l.slots - l.id
