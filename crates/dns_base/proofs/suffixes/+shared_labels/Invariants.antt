use Rattle.std.proofs.Common.{length}
use Rattle.dns_base.proofs.suffixes.+shared_labels.Given as goal

abbrev pub decreases-shared_labels : goal.decreases-shared_labels
decreases-shared_labels l = length l.key.now
