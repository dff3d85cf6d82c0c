use Rattle.dns_values.specs.NameTable.{told}
use Rattle.dns_values.proofs.NumberNames.{name_within}
use Rattle.dns_values.proofs.number_names.number_of_text.Goals as goal

pub returns-else-begins_with-clause-within : goal.returns-else-begins_with-clause-within
returns-else-begins_with-clause-within c all = name_within c.args.greatest (told c.args.names.now) c.args.text.now c.number_of.result all c.number_of.ensures
