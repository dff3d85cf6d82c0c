use Rattle.std.proofs.Common.{length}
use Rattle.dns_presentation.proofs.parts.is_uncompressed.Given as goal

abbrev pub decreases-labels : goal.decreases-labels
decreases-labels l = length l.rest
