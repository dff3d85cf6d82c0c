use Rattle.zone_text.proofs.Cuts.{cut_is}
use Rattle.zone_text.proofs.cutting.cut_at.Goals as goal

pub returns : goal.returns
returns c = cut_is c.args.at c.args.text.now c.split_once.result c.split_once.ensures.cases c.requires
