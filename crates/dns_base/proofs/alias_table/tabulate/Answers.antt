use Rattle.std.proofs.Common.{sym, ap, arith}
use Rattle.std.specs.Prelude.{option_map, ℕ}
use Rattle.dns_base.specs.Message.{Known}
use Rattle.dns_base.proofs.AliasTables.{none_so_far, one_more, all_so_far}
use Rattle.dns_base.proofs.alias_table.tabulate.Goals as goal

pub add-requires-clause-counted : goal.add-requires-clause-counted
add-requires-clause-counted c = c.loop.invariant.fits

pub add-requires-clause-stands : goal.add-requires-clause-stands
add-requires-clause-stands c = ap (option_map (λ (x : Known × ℕ). x.0)) (sym c.in_ok-record.ensures)

pub loop-init : goal.loop-init
loop-init c = none_so_far c.args.octets.now c.args.places.now c.args.start

pub loop-preserved : goal.loop-preserved
loop-preserved c =
    one_more _ _ _ _ _ _ _ _ _ _ c.loop.invariant (sym c.in_ok-record.ensures) c.in_ok-kept.ensures.added (omega (arith, c.in_ok-kept.ensures.counted, c.add.ensures.length))

pub returns-clause-made : goal.returns-clause-made
returns-clause-made c = all_so_far _ _ _ _ _ _ _ c.loop.invariant (omega arith)
