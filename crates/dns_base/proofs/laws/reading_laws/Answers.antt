use Rattle.dns_base.proofs.Readings.{reading_laws}
use Rattle.dns_base.proofs.laws.reading_laws.Goals as goal

pub returns : goal.returns
returns c = reading_laws
