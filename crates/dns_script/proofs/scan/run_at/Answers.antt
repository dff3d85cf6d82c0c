-- The lowest mark stands where the first separator does.
use Rattle.std.proofs.Common.{eqb, sym, ap, ◌∙◌, arith, w8}
use Rattle.std.specs.Int.Count.{count_trailing_zeros}
use Rattle.std.specs.Simd.Lanes.{chunk}
use Rattle.std.proofs.lemmas.Simd.{length-chunk, bitmask_splat, leading_from_mask_l, trailing_mask_l}
use Rattle.dns_script.proofs.Marks.{run_is}
use Rattle.dns_script.proofs.scan.run_at.Goals as goal

pub returns-then-marks-eq0 : goal.returns-then-marks-eq0
returns-then-marks-eq0 c =
    let octets = c.args.octets.now in
    let loaded = chunk c.args.from 16 octets in
    let long = length-chunk c.args.from 16 octets c.requires in
    let marks = bitmask_splat w8 eqb loaded 16 c.args.separator long (omega arith) in
    run_is (λ x. eqb x c.args.separator) octets c.args.from 16 16 c.requires (sym (leading_from_mask_l (λ x. eqb x c.args.separator) loaded (sym marks ∙ c.if-marks-eq0.true) ∙ long))

pub returns-else-marks-eq0 : goal.returns-else-marks-eq0
returns-else-marks-eq0 c =
    let octets = c.args.octets.now in
    let loaded = chunk c.args.from 16 octets in
    let long = length-chunk c.args.from 16 octets c.requires in
    let marks = bitmask_splat w8 eqb loaded 16 c.args.separator long (omega arith) in
    run_is (λ x. eqb x c.args.separator) octets c.args.from 16 _ c.requires (ap (count_trailing_zeros 64) marks ∙ trailing_mask_l (λ x. eqb x c.args.separator) 64 loaded (omega arith) (omega arith))
