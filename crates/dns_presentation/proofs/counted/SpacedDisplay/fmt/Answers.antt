use Rattle.std.proofs.Common.{rules}
use Rattle.std.specs.Prelude.{Ok}
use Rattle.dns_presentation.proofs.CountedTexts.{spaced_shown, none_spaced}
use Rattle.dns_presentation.proofs.counted.SpacedDisplay.fmt.Goals as goal

pub returns-in_ok-write_part-in-Some-clause-writes : goal.returns-in_ok-write_part-in-Some-clause-writes
returns-in_ok-write_part-in-Some-clause-writes g c =
    spaced_shown g.W.Write.write_str_gives c.args.f.now c.write_part.new.f c.write.new.self c.write.result c.args.self.now.0.kind
    c.args.self.now.0.octets.now c.in-Some.first.now c.in-Some.octets.now c.in-Some.ensures.value (λ p. search rules) c.write.ensures.writes

pub returns-in-None-clause-writes : goal.returns-in-None-clause-writes
returns-in-None-clause-writes g c =
    none_spaced g.W.Write.write_str_gives c.args.f.now (Ok tt) c.args.self.now.0.kind c.args.self.now.0.octets.now c.in-None.ensures.value
