use Rattle.std.proofs.Common.{rules, ◌∷◌, ◌++◌, decimal}
use Rattle.dns_presentation.specs.Counted.{led_parts}
use Rattle.dns_presentation.proofs.CountedTexts.{behind_shown}
use Rattle.dns_presentation.proofs.zones.write_types.Goals as goal

pub returns : goal.returns
returns g c =
    behind_shown g.W.Write.write_str_gives c.args.f.now c.write.new.self c.write-2.new.self c.write-2.result
    (decimal c.args.serial ++ 32 ∷ decimal c.args.flags) (led_parts c.args.types.kind c.args.types.octets.now) (λ p. search rules)
    c.write-2.ensures.writes
