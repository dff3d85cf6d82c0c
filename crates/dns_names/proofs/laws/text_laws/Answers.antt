use Rattle.dns_names.proofs.Shown.{name_read, relative_read}
use Rattle.dns_names.proofs.laws.text_laws.Goals as goal

pub returns : goal.returns
returns c = record { name_is_read = name_read; relative_is_read = relative_read }
