use Rattle.std.proofs.Common.{◌≡◌, ◌∙◌, sym, true, false, rules}
use Rattle.std.specs.Prelude.{is_some}
use Rattle.dns_presentation.specs.declared.counted.PartKind.TheVariants.{Prefix}
use Rattle.dns_presentation.specs.Counted.{led_parts, spaced_parts}
use Rattle.dns_presentation.proofs.CountedTexts.{or_generic_some, or_generic_none, spaced_filled}
use Rattle.dns_presentation.proofs.counted.write_prefixes.Goals as goal

pub returns-then-are_whole : goal.returns-then-are_whole
returns-then-are_whole g c =
    let octets = c.args.octets.now in
    let e : is_some (led_parts Prefix c.args.octets.now) ≡ true = search rules in
    or_generic_some g.W.Write.write_str_gives c.args.f.now c.write.new.self c.write.result (spaced_parts Prefix octets) octets
    (sym (spaced_filled Prefix octets) ∙ e) c.write.ensures.writes

pub returns-else-are_whole : goal.returns-else-are_whole
returns-else-are_whole g c =
    let octets = c.args.octets.now in
    let e : is_some (led_parts Prefix c.args.octets.now) ≡ false = search rules in
    or_generic_none g.W.Write.write_str_gives c.args.f.now c.write-else-are_whole.new.self c.write-else-are_whole.result (spaced_parts Prefix octets) octets
    (sym (spaced_filled Prefix octets) ∙ e) c.write-else-are_whole.ensures.writes
