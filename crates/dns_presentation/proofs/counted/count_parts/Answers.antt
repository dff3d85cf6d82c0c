use Rattle.std.proofs.Common.{arith}
use Rattle.dns_presentation.specs.Counted.{part_size}
use Rattle.dns_presentation.proofs.CountedTexts.{counted_first, counted_more, counted_all, counted_none}
use Rattle.dns_presentation.proofs.counted.count_parts.Goals as goal

pub loop-behind-init : goal.loop-behind-init
loop-behind-init c = record { few = omega arith; same = counted_first (part_size c.args.kind) c.args.whole.now }

pub loop-behind-preserved : goal.loop-behind-preserved
loop-behind-preserved c = record {
  few = omega (arith, c.in-Some.ensures.shorter);
  same = counted_more _ _ _ _ _ _ c.loop-behind.invariant.same c.in-Some.ensures.value;
}

pub returns-then-is_empty : goal.returns-then-is_empty
returns-then-is_empty c =
    counted_all (part_size c.args.kind) c.args.whole.now c.loop-behind.rest.now c.loop-behind.count c.is_empty.result c.loop-behind.invariant.same
    c.is_empty.ensures c.if-is_empty.true

pub returns-else-is_empty : goal.returns-else-is_empty
returns-else-is_empty c =
    counted_none (part_size c.args.kind) c.args.whole.now c.loop-behind.rest.now c.loop-behind.count c.is_empty.result c.loop-behind.invariant.same
    c.in_default.ensures.value c.is_empty.ensures c.if-is_empty.false
