-- Two digits were stored.
use Rattle.std.proofs.Common.{rules, arith}
use Rattle.std.proofs.lemmas.Grind.{common_steps}
use Rattle.dns_script.proofs.SpelledOctets.{two_stored}
use Rattle.dns_script.proofs.words.push_piece.Goals as goal

pub loop-at-preserved : goal.loop-at-preserved
loop-at-preserved c =
    let stored = two_stored c.loop-at.digits c.loop-at.at c.hex_digit.result c.hex_digit-in-loop-at.result (search rules) in record {
      size = search rules;
      digits = rw stored (grind (arith, common_steps));
    }
