use Rattle.std.proofs.Common.{◌≡◌, true, false, rules}
use Rattle.std.specs.Prelude.{is_some}
use Rattle.dns_presentation.specs.Counted.{strings_text}
use Rattle.dns_presentation.proofs.CountedTexts.{or_generic_some, or_generic_none, strings_shown}
use Rattle.dns_presentation.proofs.counted.write_strings.Goals as goal

pub returns-then-are_strings : goal.returns-then-are_strings
returns-then-are_strings g c =
    let text = strings_text c.args.least c.args.most c.args.octets.now in
    let e : is_some (strings_text c.args.least c.args.most c.args.octets.now) ≡ true = search rules in
    or_generic_some g.W.Write.write_str_gives c.args.f.now c.write.new.self c.write.result text c.args.whole.now e
    (strings_shown g.W.Write.write_str_gives c.args.f.now c.write.new.self c.write.result c.args.least c.args.most c.args.octets.now e
    c.write.ensures.writes)

pub returns-else-are_strings : goal.returns-else-are_strings
returns-else-are_strings g c =
    let text = strings_text c.args.least c.args.most c.args.octets.now in
    let e : is_some (strings_text c.args.least c.args.most c.args.octets.now) ≡ false = search rules in
    or_generic_none g.W.Write.write_str_gives c.args.f.now c.write-else-are_strings.new.self c.write-else-are_strings.result text c.args.whole.now e
    c.write-else-are_strings.ensures.writes
