use Rattle.dns_record.proofs.Keeping.{ends_here}
use Rattle.dns_record.proofs.laws.record_law.Goals as goal

pub returns : goal.returns
returns c = ends_here
