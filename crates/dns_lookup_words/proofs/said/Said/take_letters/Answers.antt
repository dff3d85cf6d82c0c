use Rattle.std.proofs.Common.{Err, ap, ◌∙◌}
use Rattle.dns_lookup_words.proofs.Letters.{no_letter}
use Rattle.dns_lookup_words.proofs.said.Said.take_letters.Goals as goal

pub returns-in_default : goal.returns-in_default
returns-in_default c = ap Err c.wrong_letter.ensures ∙ no_letter c.args.text.now c.args.self.now c.in_default.not-text c.in_default.not-text-2 c.in_default.not-text-3
