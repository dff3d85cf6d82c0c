use Rattle.zone_text.proofs.NumbersBack.{numbers_back}
use Rattle.zone_text.proofs.laws.numbers_back_law.Goals as goal

pub returns : goal.returns
returns c = numbers_back
