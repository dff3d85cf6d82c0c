use Rattle.std.proofs.Common.{arith, refl}
use Rattle.std.proofs.Output.{has_written_append, has_written_of_eq}
use Rattle.dns_presentation.specs.Named.{parts_view}
use Rattle.dns_presentation.proofs.SpelledTexts.{spelled_is}
use Rattle.dns_presentation.proofs.named.write_spelled.Goals as goal

pub returns : goal.returns
returns g c p ok =
    let one = c.in_ok-write.ensures.writes p refl in
    let two = c.in_ok-write_digits.ensures one.plain refl in
    let three = c.in_ok-write_second.ensures two.plain refl in
    let four = c.write-2.ensures.writes three.plain ok in
    has_written_of_eq _ _ _ _ _ (spelled_is (parts_view c.args.named.now) _ (omega (arith, c.name_size.ensures.all, c.second_name_size.ensures.all)))
    (has_written_append _ _ _ _ _ _ one (has_written_append _ _ _ _ _ _ two (has_written_append _ _ _ _ _ _ three four)))
