use Rattle.dns_names.proofs.NameLaws.{end_within}
use Rattle.dns_names.proofs.name.ParsedName.parse.Goals as goal

pub returns-clause-within : goal.returns-clause-within
returns-clause-within c = end_within _ _ _ c.in_ok-end.ensures
