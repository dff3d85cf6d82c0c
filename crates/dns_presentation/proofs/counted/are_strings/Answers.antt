use Rattle.std.proofs.Common.{◌∙◌, sym}
use Rattle.dns_presentation.proofs.CountedTexts.{strings_filled, no_strings}
use Rattle.dns_presentation.proofs.counted.are_strings.Goals as goal

pub returns-in-Some : goal.returns-in-Some
returns-in-Some c =
    c.is_between.ensures ∙ sym (strings_filled c.args.least c.args.most c.args.octets.now c.in-Some.count c.in-Some.ensures)

pub returns-in-None : goal.returns-in-None
returns-in-None c = sym (no_strings c.args.least c.args.most c.args.octets.now c.in-None.ensures)
