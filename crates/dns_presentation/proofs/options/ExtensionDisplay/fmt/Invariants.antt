use Rattle.std.proofs.Common.{length}
use Rattle.dns_presentation.proofs.options.ExtensionDisplay.fmt.Given as goal

abbrev pub decreases-loop-code : goal.decreases-loop-code
decreases-loop-code g l = length l.rest
