use Rattle.std.proofs.Common.{length}
use Rattle.dns_presentation.proofs.service.are_parameters.Given as goal

abbrev pub decreases-parameters : goal.decreases-parameters
decreases-parameters l = length l.rest
