use Rattle.std.proofs.Common.{length}
use Rattle.dns_presentation.proofs.service.are_items.Given as goal

abbrev pub decreases-items : goal.decreases-items
decreases-items l = length l.rest
