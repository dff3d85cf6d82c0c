use Rattle.std.proofs.Common.{◌≡◌, length}
use Rattle.client_multi.specs.Fallback as plain
use Rattle.client_multi.proofs.dgram_stream.steps.give_all.Given as goal

abbrev pub invariant-loop-posted : goal.invariant-loop-posted
invariant-loop-posted g l = plain.gives_all l.from_stream l.tables l.board ≡ plain.gives_all l.initial.from_stream l.initial.tables l.initial.board

abbrev pub decreases-loop-posted : goal.decreases-loop-posted
decreases-loop-posted g l = length l.from_stream
