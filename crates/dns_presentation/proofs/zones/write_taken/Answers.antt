use Rattle.std.proofs.Common.{◌≡◌, ◌∙◌, ◌∷◌, ◌++◌, decimal, sym, true, false, rules}
use Rattle.std.specs.Prelude.{is_some}
use Rattle.dns_presentation.specs.declared.counted.PartKind.TheVariants.{Window}
use Rattle.dns_presentation.specs.Counted.{led_parts}
use Rattle.dns_presentation.specs.Zones.{taken_text}
use Rattle.dns_presentation.proofs.CountedTexts.{or_generic_some, or_generic_none, some_behind}
use Rattle.dns_presentation.proofs.zones.write_taken.Goals as goal

pub returns-then-are_whole : goal.returns-then-are_whole
returns-then-are_whole g c =
    let octets = c.args.octets.now in
    let e : is_some (led_parts Window c.args.octets.now) ≡ true = search rules in
    or_generic_some g.W.Write.write_str_gives c.args.f.now c.write_types.new.f c.write_types.result (taken_text c.args.serial c.args.flags octets)
    c.args.whole.now (sym (some_behind (decimal c.args.serial ++ 32 ∷ decimal c.args.flags) (led_parts Window octets)) ∙ e) c.write_types.ensures

pub returns-else-are_whole : goal.returns-else-are_whole
returns-else-are_whole g c =
    let octets = c.args.octets.now in
    let e : is_some (led_parts Window c.args.octets.now) ≡ false = search rules in
    or_generic_none g.W.Write.write_str_gives c.args.f.now c.write.new.self c.write.result (taken_text c.args.serial c.args.flags octets)
    c.args.whole.now (sym (some_behind (decimal c.args.serial ++ 32 ∷ decimal c.args.flags) (led_parts Window octets)) ∙ e) c.write.ensures.writes
