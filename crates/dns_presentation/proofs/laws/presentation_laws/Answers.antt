use Rattle.dns_presentation.proofs.StringTexts.{string_read}
use Rattle.dns_presentation.proofs.GenericTexts.{generic_read}
use Rattle.dns_presentation.proofs.NameTexts.{name_read}
use Rattle.dns_presentation.proofs.laws.presentation_laws.Goals as goal

pub returns : goal.returns
returns c = record { string_is_read = string_read; generic_is_read = generic_read; name_is_read = name_read }
