use Rattle.std.proofs.Common.{◌∷◌, [], arith}
use Rattle.std.proofs.lemmas.Grind.{common_steps}
use Rattle.dns_names.proofs.Reversed.{group_next, digit_ends}
use Rattle.dns_names.proofs.reverse.digit_name.Goals as goal

pub loop-group-preserved : goal.loop-group-preserved
loop-group-preserved c = group_next c.args.groups.now _ _ c.loop-group.group-index (omega arith) c.loop-group.invariant c.in_ok-push_digits.ensures

pub from_spelling-requires : goal.from_spelling-requires
from_spelling-requires c =
    let whole = digit_ends c.args.groups.now c.loop-group.name.items c.push.new.self.items c.loop-group.group-index (105 ∷ 112 ∷ 54 ∷ []) (97 ∷ 114 ∷ 112 ∷ 97 ∷ [])
    c.loop-group.invariant (omega arith) (omega arith) (omega arith, omega arith) (omega arith, omega arith) (omega arith) (grind (arith, common_steps)) in
    (_, whole.0, whole.1)

pub returns : goal.returns
returns c =
    let whole = digit_ends c.args.groups.now c.loop-group.name.items c.push.new.self.items c.loop-group.group-index (105 ∷ 112 ∷ 54 ∷ []) (97 ∷ 114 ∷ 112 ∷ 97 ∷ [])
    c.loop-group.invariant (omega arith) (omega arith) (omega arith, omega arith) (omega arith, omega arith) (omega arith) (grind (arith, common_steps)) in
    c.from_spelling.ensures _ whole.0 whole.1
