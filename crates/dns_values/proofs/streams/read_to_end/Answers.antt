use Rattle.std.proofs.Common.{◌≤◌, arith, length}
use Rattle.std.proofs.lemmas.Grind.{common_steps}
use Rattle.dns_values.proofs.Pieces.{gave_whole, gave_more}
use Rattle.dns_values.proofs.streams.read_to_end.Goals as goal

pub returns-then-n-eq0-clause-whole : goal.returns-then-n-eq0-clause-whole
returns-then-n-eq0-clause-whole g c =
    gave_whole c.in_ok-n.n _ c.loop-octets.octets.items (g.S.Source.left c.args.source.now) (g.S.Source.left c.loop-octets.source) _
    c.if-n-eq0.true (grind (arith, common_steps, c.min.array_long)) c.loop-octets.invariant.gave c.in_ok-n.ensures.rest c.in_ok-n.ensures.end

pub loop-octets-preserved : goal.loop-octets-preserved
loop-octets-preserved g c = record {
  within = grind (arith, common_steps, c.in_ok-extend_from_slice.ensures.items);
  gave = rw c.in_ok-extend_from_slice.ensures.items (gave_more c.in_ok-n.n c.loop-octets.octets.items _ _ c.read.new.buf (g.S.Source.left c.args.source.now)
      (g.S.Source.left c.loop-octets.source) _ c.loop-octets.invariant.gave c.in_ok-n.ensures.rest c.in_ok-n.ensures.front
      (let long : c.in_ok-n.n ≤ length c.read.new.buf = omega (arith, c.in_ok-n.ensures.within, c.read.auto.buf) in grind (arith, common_steps)));
  count = omega (arith, c.in_ok-n.ensures.count, c.loop-octets.invariant.count);
}
