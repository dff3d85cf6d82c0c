use Rattle.std.proofs.Common.{length}
use Rattle.example_service.proofs.print_places.Given as goal

abbrev pub decreases-loop-item : goal.decreases-loop-item
decreases-loop-item l = length l.found
