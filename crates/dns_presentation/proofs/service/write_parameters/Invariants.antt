use Rattle.std.proofs.Common.{length}
use Rattle.dns_presentation.proofs.service.write_parameters.Given as goal

abbrev pub decreases-loop-key : goal.decreases-loop-key
decreases-loop-key g l = length l.rest
