use Rattle.std.proofs.Common.{◌++◌, arith, get_or, rules}
use Rattle.std.proofs.Output.{has_written_append, has_written_of_eq}
use Rattle.dns_presentation.specs.Types.{octet_types}
use Rattle.dns_presentation.proofs.BitTexts.{bits_more, bits_end}
use Rattle.dns_presentation.proofs.types.write_bits.Goals as goal

pub loop-octet-preserved : goal.loop-octet-preserved
loop-octet-preserved g c = record {
  place = omega arith;
  same = λ p.
      let so_far = c.loop-octet.invariant.same p in
      let octet = get_or c.args.octets.now c.loop-octet.octet-index 0 in (
        so_far.0 ++ octet_types c.loop-octet.at octet,
        has_written_append _ _ _ _ _ _ so_far.1 (search rules),
        bits_more c.loop-octet.at c.loop-octet.octet-index c.args.octets.now so_far.0 _ (omega arith) so_far.2,
      );
}

pub returns : goal.returns
returns g c p ok =
    let so_far = c.loop-octet.invariant.same p in
    has_written_of_eq _ _ _ _ _ (bits_end c.loop-octet.at c.loop-octet.octet-index c.args.octets.now so_far.0 _ (omega arith) so_far.2) so_far.1
