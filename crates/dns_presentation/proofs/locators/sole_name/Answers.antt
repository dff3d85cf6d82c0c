use Rattle.std.proofs.Common.{◌∙◌, refl, sym, length}
use Rattle.dns_presentation.proofs.LocatorTexts.{sole_found, no_name}
use Rattle.dns_presentation.proofs.locators.sole_name.Goals as goal

pub returns-in-Some : goal.returns-in-Some
returns-in-Some c = c.if_spelled.ensures ∙ sym (sole_found (length c.args.octets.now) c.args.octets.now _ c.in-Some.end refl c.in-Some.ensures.value)

pub returns-in-None : goal.returns-in-None
returns-in-None c = sym (no_name c.args.octets.now c.in-None.ensures.value)
