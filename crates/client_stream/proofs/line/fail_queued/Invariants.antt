use Rattle.std.proofs.Common.{◌≡◌, length}
use Rattle.client_stream.specs.Plain as plain
use Rattle.client_stream.proofs.line.fail_queued.Given as goal

abbrev pub invariant-loop-ticket : goal.invariant-loop-ticket
invariant-loop-ticket g l = plain.fails_queued l.queue l.board ≡ plain.fails_queued l.initial.queue l.initial.board

abbrev pub decreases-loop-ticket : goal.decreases-loop-ticket
decreases-loop-ticket g l = length l.queue
