use Rattle.zone_text.proofs.ReadBack.{read_back}
use Rattle.zone_text.proofs.laws.read_back_law.Goals as goal

pub returns : goal.returns
returns c = read_back
