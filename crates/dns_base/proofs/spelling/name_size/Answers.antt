use Rattle.std.proofs.Common.{◌≡◌, [], arith}
use Rattle.dns_names.proofs.NameLaws.{spelled_length}
use Rattle.dns_base.proofs.spelling.name_size.Goals as goal

pub returns-clause-spelled : goal.returns-clause-spelled
returns-clause-spelled c =
    let none : c.loop-label.label-iterator ≡ [] = c.in-None.ensures.steps.0 in
    let same = rw none at c.loop-label.invariant.same in
    omega (arith, same, spelled_length c.args.name.now)
