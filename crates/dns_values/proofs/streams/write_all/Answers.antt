use Rattle.std.proofs.Common.{arith}
use Rattle.std.proofs.lemmas.Grind.{common_steps}
use Rattle.dns_values.proofs.Pieces.{written_on}
use Rattle.dns_values.proofs.streams.write_all.Goals as goal

pub loop-at-preserved : goal.loop-at-preserved
loop-at-preserved g c = record {
  within = grind (arith, common_steps, c.in_ok-n.ensures.within);
  held = written_on c.loop-at.at c.in_ok-n.n c.args.octets.now _ _ _ c.loop-at.invariant.held c.in_ok-n.ensures.held;
  count = omega (arith, c.in_ok-n.ensures.count);
}
