use Rattle.std.proofs.Common.{◌≡◌, ap, arith, map, ◌∙◌}
use Rattle.std.proofs.lemmas.Grind.{common_steps}
use Rattle.std.specs.Char.{to_ascii_lowercase}
use Rattle.dns_names.specs.Name.{lowered}
use Rattle.dns_names.proofs.LowerNames.{own_in_place}
use Rattle.dns_names.proofs.owned.Name.lower.Goals as goal

pub invariant_of-self : goal.invariant_of-self
invariant_of-self c =
    let low : c.make_ascii_lowercase.new.self ≡ map to_ascii_lowercase c.self.inside.octets.items = grind (arith, common_steps) in
    (own_in_place c.self.inside.octets.len c.make_ascii_lowercase.new.self c.self.inside.octets.items low (omega arith) c.self.invariant).0

pub returns : goal.returns
returns c =
    let low : c.make_ascii_lowercase.new.self ≡ map to_ascii_lowercase c.self.inside.octets.items = grind (arith, common_steps) in
    (own_in_place c.self.inside.octets.len c.make_ascii_lowercase.new.self c.self.inside.octets.items low (omega arith) c.self.invariant).1 ∙ ap lowered c.self.view_is
