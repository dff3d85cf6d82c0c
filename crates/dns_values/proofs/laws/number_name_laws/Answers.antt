use Rattle.dns_values.proofs.NumberNames.{number_names}
use Rattle.dns_values.proofs.laws.number_name_laws.Goals as goal

pub returns : goal.returns
returns c = number_names
