use Rattle.std.proofs.Common.{◌∷◌, [], arith}
use Rattle.std.proofs.lemmas.Grind.{common_steps}
use Rattle.dns_names.proofs.Reversed.{octet_next, decimal_next, decimal_ends}
use Rattle.dns_names.proofs.reverse.decimal_name.Goals as goal

pub loop-octet-preserved : goal.loop-octet-preserved
loop-octet-preserved c = record {
  same = octet_next c.args.octets.now _ _ c.loop-octet.octet-index (omega arith) c.loop-octet.invariant.same c.in_ok-push_decimal.ensures.added;
  small = decimal_next c.args.octets.now c.loop-octet.octet-index (omega arith) c.push_decimal.ensures.short c.loop-octet.invariant.small;
}

pub from_spelling-requires : goal.from_spelling-requires
from_spelling-requires c =
    let whole = decimal_ends c.args.octets.now c.loop-octet.name.items c.push.new.self.items c.loop-octet.octet-index (105 ∷ 110 ∷ 45 ∷ 97 ∷ 100 ∷ 100 ∷ 114 ∷ []) (97 ∷ 114 ∷ 112 ∷ 97 ∷ [])
    c.loop-octet.invariant.same c.loop-octet.invariant.small (omega arith) (omega arith) (omega arith, omega arith) (omega arith, omega arith) (omega arith) (grind (arith, common_steps)) in
    (_, whole.0, whole.1)

pub returns : goal.returns
returns c =
    let whole = decimal_ends c.args.octets.now c.loop-octet.name.items c.push.new.self.items c.loop-octet.octet-index (105 ∷ 110 ∷ 45 ∷ 97 ∷ 100 ∷ 100 ∷ 114 ∷ []) (97 ∷ 114 ∷ 112 ∷ 97 ∷ [])
    c.loop-octet.invariant.same c.loop-octet.invariant.small (omega arith) (omega arith) (omega arith, omega arith) (omega arith, omega arith) (omega arith) (grind (arith, common_steps)) in
    c.from_spelling.ensures _ whole.0 whole.1
