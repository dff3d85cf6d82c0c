use Rattle.cache_rules.proofs.ViewLaws.{view_laws}
use Rattle.cache_rules.proofs.laws.view_laws.Goals as goal

pub returns : goal.returns
returns c = view_laws
