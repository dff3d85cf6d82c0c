use Rattle.std.proofs.Common.{◌≡◌, Ok, subst}
use Rattle.dns_names.specs.Name.{Labels}
use Rattle.dns_names.specs.Text.{relative_of_text, relative_text}
use Rattle.dns_names.proofs.Shown.{relative_read, are_octets}
use Rattle.dns_names.proofs.laws.relative_name_is_read_back.Goals as goal

pub returns : goal.returns
returns c =
    let P : Labels → Type 0 = λ l. relative_of_text (relative_text l) ≡ Ok l in
    subst P c.as_absolute.ensures (relative_read _ c.as_octets.ensures.legal (are_octets _ _ c.as_octets.ensures.octets c.are_octets.ensures))
