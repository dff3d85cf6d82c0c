use Rattle.zone_list.proofs.Reading.{one_reading}
use Rattle.zone_list.proofs.laws.one_reading_law.Goals as goal

pub returns : goal.returns
returns c = one_reading
