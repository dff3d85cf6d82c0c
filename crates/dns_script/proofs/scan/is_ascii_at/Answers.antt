-- Where no octet is marked, each is below 128.
use Rattle.std.proofs.Common.{leb, sym, ◌∙◌, arith}
use Rattle.std.specs.Simd.Lanes.{chunk}
use Rattle.std.proofs.lemmas.Bool.{leb-false, eqb-true}
use Rattle.std.proofs.lemmas.Simd.{length-chunk, none_from_empty_mask}
use Rattle.dns_script.proofs.Marks.{mask_behind_splat}
use Rattle.dns_script.proofs.scan.is_ascii_at.Goals as goal

pub returns : goal.returns
returns c none k low high =
    let octets = c.args.octets.now in
    let loaded = chunk c.args.at 16 octets in
    let marks = mask_behind_splat leb loaded 16 128 (length-chunk c.args.at 16 octets c.requires) (omega arith) in
    leb-false _ _ (none_from_empty_mask (leb 128) octets c.args.at 16 0 c.requires (sym marks ∙ eqb-true _ _ none) k low high)
