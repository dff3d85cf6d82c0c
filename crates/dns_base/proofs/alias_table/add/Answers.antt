use Rattle.std.proofs.Common.{◌≡◌, false, true, arith}
use Rattle.std.specs.Prelude.{◌==◌}
use Rattle.std.proofs.lemmas.Bool.Decides.{nat_tests}
use Rattle.dns_base.proofs.AliasTables.{other_kept, owner_kept, new_kept}
use Rattle.dns_base.proofs.alias_table.add.Goals as goal

pub returns-then-ne-clause-added : goal.returns-then-ne-clause-added
returns-then-ne-clause-added c = λ records t.
    let other : (c.args.alias.now.entry.rtype == 5) ≡ false = grind (arith, nat_tests) in
    other_kept _ _ records c.args.alias.now other t

pub returns-in-Ok-clause-added : goal.returns-in-Ok-clause-added
returns-in-Ok-clause-added c = λ records t.
    owner_kept _ _ records c.args.alias.now _ _ c.owner.ensures c.in-Ok.ensures.bound (c.in-Ok.ensures.position 0) t

pub returns-else-place-clause-added : goal.returns-else-place-clause-added
returns-else-place-clause-added c = λ records t.
    let five : (c.args.alias.now.entry.rtype == 5) ≡ true = grind (arith, nat_tests) in
    new_kept c.args.octets.now _ _ records c.args.alias.now c.in-Err.at c.args.place _ _ c.owner.ensures c.in-Err.ensures.bound c.requires.stands five t c.in-Err.ensures.position c.insert_at.ensures.put (omega arith)
