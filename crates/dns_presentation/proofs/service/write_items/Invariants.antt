use Rattle.std.proofs.Common.{length}
use Rattle.dns_presentation.proofs.service.write_items.Given as goal

abbrev pub decreases-loop-string : goal.decreases-loop-string
decreases-loop-string g l = length l.rest
